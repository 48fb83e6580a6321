-- Labels that no move is a step by: by their names, and by their numbers.
use Rattle.std.proofs.Common.{◌≡◌, ℕ, ◌-◌, List, [], ◌∷◌, ◌++◌, length, take, not}
use Rattle.std.proofs.Common.{Bool, true, false, ◌||◌, eqb, cond, Some, codes, Bor}
use Rattle.std.proofs.Common.{slice_get, refl, sym, ap, subst, ◌∙◌, inl, inr, append-nil, min}
use Rattle.std.specs.Str.{bytes_eq}
use Rattle.std.proofs.lemmas.Bool.{eqb-true, eq-eqb, false_from_ne_true}
use Rattle.std.proofs.lemmas.List.{take-map, take_min, length-map}
use Rattle.std.proofs.lemmas.List.Elements.{filter-append}
use Rattle.mm_code.specs.Layout.{texts}
use Rattle.mm_frame.specs.Sentence.{Sentence, SomeSentence, IsLabelled}
use Rattle.mm_frame.specs.Numbers.{labelled_sentences}
use Rattle.mm_frame.specs.Rules.{AllMeant}
use Rattle.mm_frame.proofs.Names.LabelNumbers.{numbered_from_get}
use Rattle.mm_frame.proofs.Rules.ObeyedRules.{one_label}
use Rattle.mm_step.specs.Moves.{Move, name, again, mark}
use Rattle.mm_step.specs.Steps.{IsNumberedMove, AreNumberedMoves}
use Rattle.mm_step.proofs.ByNumbers.NumberedSymbols.{same_told}
use Rattle.mm_proof.specs.Tokens.{IsCompressed, SayMoves, is_incomplete}
use Rattle.mm_proof.proofs.ProofTokens.SaidMoves.{normal_or_compressed, compressed_once}
use Rattle.mm_rules.specs.Shown.{symbols_text}
use Rattle.mm_facts.specs.Explained.{judged_tokens}
use Rattle.mm_facts.proofs.DetailTexts.{four_parts}
use Rattle.mm_facts.proofs.TokenHalts.{judged_complete}
use Rattle.mm_explain.specs.Unused.{is_by, is_named, unused_in, unused_text, more_unused}
use Rattle.mm_explain.specs.Unused.{most_unused, AreUnusedAtStop}

-- ---- the numbers of named labels

or_false : (b : Bool) → (b || false) ≡ b
or_false true = refl
or_false false = refl

or_true : (b : Bool) → (b || true) ≡ true
or_true true = refl
or_true false = refl

or_assoc : (a b c : Bool) → (a || (b || c)) ≡ ((a || b) || c)
or_assoc true b c = refl
or_assoc false b c = refl

-- what a set has after a label that a move names was put into it
pub put_more : (k id : ℕ) (old new : Bool) (move : Move ℕ) → new ≡ cond (eqb k id) true old
    → move ≡ name k → new ≡ (old || is_by eqb id move)
put_more k id old new move is moved =
    is ∙ subst (λ m. cond (eqb k id) true old ≡ (old || is_by eqb id m)) (sym moved)
    (go (eqb k id) refl)
  where
    go : (b : Bool) → eqb k id ≡ b → cond b true old ≡ (old || eqb id k)
    go true e = sym (ap (λ x. old || x) (eq-eqb id k (sym (eqb-true k id e))) ∙ or_true old)
    go false e =
        let other : eqb id k ≡ false = false_from_ne_true (eqb id k) (λ t.
        let same : eqb k id ≡ true = eq-eqb k id (sym (eqb-true id k t)) in cc) in
        sym (ap (λ x. old || x) other ∙ or_false old)

-- where the move names no label
pub put_none : (id : ℕ) (old : Bool) (move : Move ℕ) (tag : ℕ) → move ≡ again tag
    → old ≡ (old || is_by eqb id move)
put_none id old move tag moved =
    subst (λ m. old ≡ (old || is_by eqb id m)) (sym moved) (sym (or_false old))

-- what one more move names
named_push : (front : List (Move ℕ)) (move : Move ℕ) (id : ℕ)
    → is_named eqb (front ++ move ∷ []) id ≡ (is_named eqb front id || is_by eqb id move)
named_push [] move id = or_false (is_by eqb id move)
named_push (x ∷ xs) move id =
    ap (λ b. is_by eqb id x || b) (named_push xs move id)
    ∙ or_assoc (is_by eqb id x) (is_named eqb xs id) (is_by eqb id move)

pub named_more : (moves front : List (Move ℕ)) (move : Move ℕ) (id : ℕ) (old new : Bool)
    → moves ≡ front ++ move ∷ [] → old ≡ is_named eqb front id
    → new ≡ (old || is_by eqb id move) → new ≡ is_named eqb moves id
named_more moves front move id old new is before more =
    more ∙ ap (λ b. b || is_by eqb id move) before ∙ sym (named_push front move id)
    ∙ ap (λ ms. is_named eqb ms id) (sym is)

-- ---- labels by their names

-- the label of one statement is that of another of the same number
module _ (st : List Sentence) (all : AllMeant st) (label : List ℕ) (id : ℕ) (s : Sentence)
    (there : slice_get (labelled_sentences st) id ≡ Some s) (named : IsLabelled label s) where
  same_label : (t : Sentence) (other : List ℕ) → slice_get (labelled_sentences st) id ≡ Some t
      → IsLabelled other t → bytes_eq label other ≡ true
  same_label t other at labelled =
      (same_told label other (bytes_eq label other) refl).1 (cc (there, at, named, labelled))

  -- a label has one number
  same_number : (n : ℕ) (t : Sentence) → slice_get (labelled_sentences st) n ≡ Some t
      → IsLabelled label t → id ≡ n
  same_number n t at labelled =
      let p = numbered_from_get st id s there in
      let q = numbered_from_get st n t at in
      let one : p.0 ≡ q.0 = one_label st label p.0 q.0 s t all p.1.there q.1.there named labelled in
      sym p.1.number ∙ ap (λ k. length (labelled_sentences (take k st))) one ∙ q.1.number

  by_name : (n : ℕ) (t : Sentence) (other : List ℕ)
      → slice_get (labelled_sentences st) n ≡ Some t → IsLabelled other t
      → (b : Bool) → eqb id n ≡ b → b ≡ bytes_eq label other
  by_name n t other at labelled true is =
      sym (same_label t other (ap (slice_get (labelled_sentences st)) (eqb-true id n is) ∙ at)
      labelled)
  by_name n t other at labelled false is =
      sym (false_from_ne_true (bytes_eq label other) (λ e.
      let same : label ≡ other = (same_told label other (bytes_eq label other) refl).0 e in
      let number : id ≡ n =
      same_number n t at (subst (λ l. IsLabelled l t) (sym same) labelled) in
      let other_way : eqb id n ≡ true = eq-eqb id n number in cc))

  -- a move is a step by the label, if it is one by its number
  by_alike : (x : Move ℕ) (y : Move (List ℕ)) → IsNumberedMove st x y
      → is_by eqb id x ≡ is_by bytes_eq label y
  by_alike (name n) y (t, other, at, labelled, is) =
      subst (λ (z : Move (List ℕ)). eqb id n ≡ is_by bytes_eq label z) (sym is)
      (by_name n t other at labelled (eqb id n) refl)
  by_alike (again tag) y is =
      ap (is_by bytes_eq label) (sym is)
  by_alike mark y is = ap (is_by bytes_eq label) (sym is)

  pub named_alike : (xs : List (Move ℕ)) (ys : List (Move (List ℕ))) → AreNumberedMoves st xs ys
      → is_named eqb xs id ≡ is_named bytes_eq ys label
  named_alike [] [] z = refl
  named_alike (x ∷ xs) (y ∷ ys) z =
      ap (λ b. b || is_named eqb xs id) (by_alike x y z.0)
      ∙ ap (λ b. is_by bytes_eq label y || b) (named_alike xs ys z.1)
  named_alike xs ys z = absurd z

-- no move is a step by a label that no statement has
module _ (st : List Sentence) (label : List ℕ) (none : ¬ (SomeSentence st (IsLabelled label))) where
  by_none : (x : Move ℕ) (y : Move (List ℕ)) → IsNumberedMove st x y
      → is_by bytes_eq label y ≡ false
  by_none (name n) y (t, other, at, labelled, is) =
      subst (λ (z : Move (List ℕ)). is_by bytes_eq label z ≡ false) (sym is)
      (false_from_ne_true (bytes_eq label other) (λ e.
      let same : label ≡ other = (same_told label other (bytes_eq label other) refl).0 e in
      let p = numbered_from_get st n t at in
      none (p.0, t, p.1.there, subst (λ l. IsLabelled l t) (sym same) labelled)))
  by_none (again tag) y is = ap (is_by bytes_eq label) is
  by_none mark y is = ap (is_by bytes_eq label) is

  pub named_none : (xs : List (Move ℕ)) (ys : List (Move (List ℕ))) → AreNumberedMoves st xs ys
      → is_named bytes_eq ys label ≡ false
  named_none [] [] z = refl
  named_none (x ∷ xs) (y ∷ ys) z =
      ap (λ b. b || is_named bytes_eq ys label) (by_none x y z.0) ∙ named_none xs ys z.1
  named_none xs ys z = absurd z

-- ---- the labels of the list

module _ (moves : List (Move (List ℕ))) (front labels kept : List (List ℕ)) (label : List ℕ)
    (named : Bool) (is : named ≡ is_named bytes_eq moves label)
    (before : kept ≡ unused_in moves front) (more : labels ≡ front ++ label ∷ []) where
  all_told : unused_in moves labels ≡ kept ++ cond (not named) (label ∷ []) []
  all_told =
      ap (unused_in moves) more
      ∙ filter-append (λ l. not (is_named bytes_eq moves l)) front (label ∷ [])
      ∙ ap (λ ls. ls ++ cond (not (is_named bytes_eq moves label)) (label ∷ []) []) (sym before)
      ∙ ap (λ b. kept ++ cond (not b) (label ∷ []) []) (sym is)

  -- one more label of the list, which is told
  pub told_more : named ≡ false → kept ++ label ∷ [] ≡ unused_in moves labels
  told_more none = sym (all_told ∙ ap (λ b. kept ++ cond (not b) (label ∷ []) []) none)

  -- or which a move is a step by
  pub told_same : named ≡ true → kept ≡ unused_in moves labels
  told_same some =
      sym (all_told ∙ ap (λ b. kept ++ cond (not b) (label ∷ []) []) some ∙ append-nil kept)

-- ---- the line

unused_line : (labels : List (List ℕ)) → (length labels ≡ 0 → ⊥)
    → unused_text labels
    ≡ codes "  no step is by:" ++ symbols_text (take most_unused labels)
    ++ more_unused (length labels - most_unused) ++ codes "\n"
unused_line [] some = absurd (some refl)
unused_line (label ∷ labels) some = refl

-- the line of some labels, part by part
pub unused_told : (out o₁ o₂ o₃ o₄ : List ℕ) (xs : List (Bor (List ℕ))) (shown more : ℕ)
    → (length xs ≡ 0 → ⊥) → shown ≡ min most_unused (length xs) → more ≡ length xs - most_unused
    → o₁ ≡ out ++ codes "  no step is by:" → o₂ ≡ o₁ ++ symbols_text (texts (take shown xs))
    → o₃ ≡ o₂ ++ more_unused more → o₄ ≡ o₃ ++ codes "\n" → o₄ ≡ out ++ unused_text (texts xs)
unused_told out o₁ o₂ o₃ o₄ xs shown more some least left h₁ h₂ h₃ h₄ =
    let text : Bor (List ℕ) → List ℕ = λ x. x.now in
    let many : length (texts xs) ≡ length xs = length-map xs text in
    let first : texts (take shown xs) ≡ take most_unused (texts xs) =
    ap (λ k. texts (take k xs)) least ∙ ap texts (take_min most_unused xs)
    ∙ sym (take-map text most_unused xs) in
    let others : more ≡ length (texts xs) - most_unused =
    left ∙ ap (λ k. k - most_unused) (sym many) in
    four_parts out (codes "  no step is by:") (symbols_text (take most_unused (texts xs)))
    (more_unused (length (texts xs) - most_unused)) (codes "\n") o₁ o₂ o₃ o₄ h₁
    (h₂ ∙ ap (λ ls. o₁ ++ symbols_text ls) first) (h₃ ∙ ap (λ k. o₂ ++ more_unused k) others) h₄
    ∙ ap (λ t. out ++ t) (sym (unused_line (texts xs) (λ e. some (sym many ∙ e))))

-- ---- the tokens of a proof

-- the labels of the list of complete tokens are told where no move is a step by them
pub unused_of_list : (before : List Sentence) (s : Sentence) (tokens listed letters : List (List ℕ))
    (moves : List (Move (List ℕ))) (unused : List (List ℕ)) → IsCompressed tokens listed letters
    → SayMoves before s (judged_tokens tokens) moves → is_incomplete tokens ≡ false
    → unused ≡ unused_in moves listed → AreUnusedAtStop before s tokens unused
unused_of_list before s tokens listed letters moves unused parts said complete those =
    go (subst (λ (ts : List (List ℕ)). SayMoves before s ts moves)
    (judged_complete tokens complete) said)
  where
    go : SayMoves before s tokens moves → AreUnusedAtStop before s tokens unused
    go (inl normal) = absurd (normal_or_compressed tokens listed letters normal.0 parts)
    go (inr says) =
        let same = (compressed_once tokens listed says.listed letters says.letters parts
        says.parts).0 in
        inl (
          complete,
          record { moves = moves; says = says; those = those ∙ ap (unused_in moves) same },
        )

-- tokens with no list that say moves are those of a normal proof
pub unused_of_normal : (before : List Sentence) (s : Sentence) (tokens : List (List ℕ))
    (moves : List (Move (List ℕ)))
    → ((labels letters : List (List ℕ)) → ¬ (IsCompressed tokens labels letters))
    → SayMoves before s (judged_tokens tokens) moves → is_incomplete tokens ≡ false
    → AreUnusedAtStop before s tokens []
unused_of_normal before s tokens moves none said complete =
    go (subst (λ (ts : List (List ℕ)). SayMoves before s ts moves)
    (judged_complete tokens complete) said)
  where
    go : SayMoves before s tokens moves → AreUnusedAtStop before s tokens []
    go (inl normal) = inr (inl normal.0, refl)
    go (inr says) = absurd (none says.listed says.letters says.parts)
