-- The labels of a proof as they are read: each with its number, and whether all of them may be
-- used.
use Rattle.std.proofs.Common.{◌≡◌, ℕ, zero, suc, ◌+◌, ◌<◌, ◌≤◌, List, [], ◌∷◌, ◌++◌, length, map}
use Rattle.std.proofs.Common.{take, get_or, Contains, Bool, true, false, ⊎_elim, refl, sym, ap}
use Rattle.std.proofs.Common.{subst, ◌∙◌, arith, drop, slice_get, Some, inl, inr}
use Rattle.mm_base.specs.declared.token.Token.{Token}
use Rattle.mm_frame.specs.Sentence.{Sentence, IsLabelled, IsHypothesis}
use Rattle.std.proofs.lemmas.List.{map_more, take-map, map-append, take_all, length-map}
use Rattle.std.proofs.lemmas.List.Elements.{Contains-push, Contains-push_cases}
use Rattle.std.proofs.lemmas.List.Elements.{Contains-append_left}
use Rattle.mm_base.proofs.Lists.{zip_push, get_take, get_from_take, at_from_contains, zip_right}
use Rattle.mm_base.proofs.Lists.{zip_left, zip_weaker}
use Rattle.mm_frame.specs.declared.number.LabelId.{LabelId}
use Rattle.mm_step.specs.Plain.{ids_in, token_texts}
use Rattle.mm_proof.specs.Mirror.CodeSteps.{AreFor, IsIdle, IsUnknown, BreaksLabels}
use Rattle.mm_step.specs.Mirror.CodeSteps.{MayBeUsed}
use Rattle.mm_proof.specs.Mirror.CodeSteps.{NumberSays, IsReading}
use Rattle.std.proofs.lemmas.Option.{slice_get-map, slice_get-get_or}
use Rattle.mm_frame.specs.Active.{IsActive}
use Rattle.mm_frame.specs.Rules.{AllMeant}
use Rattle.mm_step.specs.declared.fault.ProofRule.{ProofRule}
use Rattle.mm_step.specs.declared.fault.ProofRule.TheVariants.{P1, P2, P3, P4, P5}
use Rattle.mm_proof.specs.Tokens.{IsNormal, AreLabels, opening_token, closing_token, Says}
use Rattle.mm_step.specs.Proof.{proof_rank}
use Rattle.mm_proof.specs.Proof.{BreaksWhole, IsWholeFault, IsWhole}
use Rattle.mm_step.proofs.ProofSteps.OneStep.{one_label, one_labelled, not_both_kinds}
use Rattle.std.specs.List.{AllZip, AllByRecursion}
use Rattle.std.proofs.lemmas.Slice.Zip.{AllZip-long}
use Rattle.mm_code.specs.declared.code.Code.{Code}
use Rattle.mm_code.specs.declared.code.Code.TheVariants.{Number, Tag}
use Rattle.mm_frame.specs.Numbers.{labelled_sentences}
use Rattle.mm_frame.proofs.Names.LabelNumbers.{numbered_get}
use Rattle.mm_step.specs.Moves.{Move, name, again, mark}
use Rattle.mm_step.specs.Steps.{IsNumberedMove, AreNumberedMoves, IsUsable, IsUsableMove}

-- ==== the labels of a proof, one after the other

-- one of the labels is idle, or all may be used
abbrev pub IdleOr : List Sentence → ℕ → Bool → List ℕ → List (List ℕ) → Type 0
IdleOr statements index true ids labels = (label : List ℕ) × Contains labels label × IsIdle statements index label
IdleOr statements index false ids labels = AreFor statements index ids labels

-- what is known of the labels so far: each is that of an earlier statement, and all may be used or one of them is idle
abbrev pub SoFar : List Sentence → ℕ → Bool → List ℕ → List (List ℕ) → Type 0
SoFar statements index idle ids labels =
    ((label : List ℕ) → Contains labels label → ¬ (IsUnknown statements index label)) × IdleOr statements index idle ids labels

-- ---- one label more

pub texts_more : {T : Type 0} (f : T → List ℕ) (labels : List T) (i : ℕ) (d : T) → i < length labels → take (i + 1) (map f labels) ≡ take i (map f labels) ++ f (get_or labels i d) ∷ []
texts_more f labels i d less = take-map f (i + 1) labels ∙ map_more f labels i d less ∙ ap (λ prefix. prefix ++ f (get_or labels i d) ∷ []) (sym (take-map f i labels))

-- a label that is that of an earlier statement is known
known_push : (P : List ℕ → Type 0) (labels : List (List ℕ)) (label : List ℕ) → ((l : List ℕ) → Contains labels l → ¬ (P l)) → ¬ (P label)
    → (l : List ℕ) → Contains (labels ++ label ∷ []) l → ¬ (P l)
known_push P labels label all here l has = ⊎_elim (all l) (λ same. subst (λ k. ¬ (P k)) same here) (Contains-push_cases labels label l has)

or_push : (statements : List Sentence) (index : ℕ) (idle : Bool) (ids : List ℕ) (id : ℕ) (labels : List (List ℕ)) (label : List ℕ)
    → IdleOr statements index idle ids labels → MayBeUsed statements index label id → IdleOr statements index idle (ids ++ id ∷ []) (labels ++ label ∷ [])
or_push statements index true ids id labels label so here = (so.0, Contains-append_left labels (label ∷ []) so.0 so.1, so.2)
or_push statements index false ids id labels label so here = zip_push (λ i l. MayBeUsed statements index l i) ids labels id label so here

-- a label that may be used
pub sofar_number : (statements : List Sentence) (index : ℕ) (idle : Bool) (ids : List LabelId) (id : LabelId) (labels : List Token) (i : ℕ) (d : Token)
    → i < length labels → SoFar statements index idle (ids_in ids) (take i (token_texts labels)) → MayBeUsed statements index (get_or labels i d).text.now id.0
    → SoFar statements index idle (ids_in (ids ++ id ∷ [])) (take (i + 1) (token_texts labels))
sofar_number statements index idle ids id labels i d less so here =
    rw (texts_more (λ t. t.text.now) labels i d less, map-append (λ n. n.0) ids (id ∷ [])) (
      known_push (IsUnknown statements index) (take i (token_texts labels)) (get_or labels i d).text.now so.0 (λ unknown. unknown (here.at, here.s, get_take statements index here.at here.before ∙ here.numbered.there, here.named)),
      or_push statements index idle (ids_in ids) id.0 (take i (token_texts labels)) (get_or labels i d).text.now so.1 here,
    )

-- a label that is idle
pub sofar_idle : (statements : List Sentence) (index : ℕ) (idle : Bool) (ids : List ℕ) (labels : List Token) (i : ℕ) (d : Token)
    → i < length labels → SoFar statements index idle ids (take i (token_texts labels)) → IsIdle statements index (get_or labels i d).text.now
    → SoFar statements index true ids (take (i + 1) (token_texts labels))
sofar_idle statements index idle ids labels i d less so here =
    rw (texts_more (λ t. t.text.now) labels i d less) (
      known_push (IsUnknown statements index) (take i (token_texts labels)) (get_or labels i d).text.now so.0
          (λ unknown. unknown (here.at, here.s, here.there, here.named)),
      ((get_or labels i d).text.now, Contains-push (take i (token_texts labels)) (get_or labels i d).text.now, here),
    )

-- a label is one of the labels
pub text_among : (labels : List Token) (i : ℕ) (d : Token) → i < length labels → Contains (token_texts labels) (get_or labels i d).text.now
text_among [] i d less = absurd (omega arith)
text_among (t ∷ labels) zero d less = (0, omega arith, refl)
text_among (t ∷ labels) (suc i) d less = let at = text_among labels i d (omega arith) in (suc at.0, (let l : at.0 < length (token_texts labels) = at.1 in omega arith), at.2)

-- at the end all labels are known
pub sofar_all : (statements : List Sentence) (index : ℕ) (idle : Bool) (ids : List ℕ) (labels : List Token) (i : ℕ) → length labels ≤ i
    → SoFar statements index idle ids (take i (token_texts labels)) → SoFar statements index idle ids (token_texts labels)
sofar_all statements index idle ids labels i all so = rw (← take_all i (token_texts labels) (omega (arith, length-map labels (λ t. t.text.now)))) so

-- ==== the tokens of a proof: its parts, its labels, and what a list of labels that may be used
-- tells

-- ---- a token more, of which something doesn't hold

pub none_more : {T : Type 0} (f : T → List ℕ) (P : List ℕ → Type 0) (tokens : List T) (i : ℕ) (d : T) → i < length tokens
    → ((t : List ℕ) → Contains (take i (map f tokens)) t → ¬ (P t)) → ¬ (P (f (get_or tokens i d)))
    → (t : List ℕ) → Contains (take (i + 1) (map f tokens)) t → ¬ (P t)
none_more f P tokens i d less none here t has =
    known_push P (take i (map f tokens)) (f (get_or tokens i d)) none here t (subst (λ l. Contains l t) (texts_more f tokens i d less) has)

-- the prefix that is all
pub prefix_all : {T : Type 0} (f : T → List ℕ) (tokens : List T) (i : ℕ) → length tokens ≤ i → take i (map f tokens) ≡ map f tokens
prefix_all f tokens i all = take_all i (map f tokens) (omega (arith, length-map tokens f))

pub text_at : {T : Type 0} (f : T → List ℕ) (tokens : List T) (i : ℕ) (d : T) → i < length tokens → slice_get (map f tokens) i ≡ Some (f (get_or tokens i d))
text_at f tokens i d less = rw (slice_get-map, slice_get-get_or tokens i d less)

-- ---- labels that may be used

-- each of the labels is that of an earlier statement
for_known : (statements : List Sentence) (index : ℕ) (ids : List ℕ) (labels : List (List ℕ)) (label : List ℕ) → AreFor statements index ids labels
    → Contains labels label → (id : ℕ) × MayBeUsed statements index label id
for_known statements index ids labels label all has =
    let at = at_from_contains labels label has in
    let id = zip_right _ ids labels at.0 label all at.1 in
    (id.0, id.2)

-- no hypothesis with such a label is idle
pub used_not_idle : (statements : List Sentence) (index : ℕ) (label : List ℕ) (id : ℕ) → AllMeant statements → MayBeUsed statements index label id
    → (at : ℕ) (h : Sentence) → slice_get (take index statements) at ≡ Some h → IsLabelled label h → IsHypothesis h.kind → ¬ (¬ (IsActive (take index statements) at))
used_not_idle statements index label id all m at h there named kind idle =
    let prefix = get_from_take statements index at h there in
    let here = m.numbered.there in
    let one : m.at ≡ at = one_label statements m.at at m.s h label all here prefix.1 m.named named in
    let same : m.s ≡ h = one_labelled statements m.at at m.s h label all here prefix.1 m.named named in
    ⊎_elim (λ active. idle (rw one at active.1))
    (λ assertion. not_both_kinds h.kind kind (rw same at assertion)) m.kind

-- ---- what the labels of a proof tell

-- these are the labels, there are no others, and the list of a compressed proof ends
pub record HasLabels (tokens labels : List (List ℕ)) : Type 0 where
  pub are : AreLabels tokens labels
  pub one : (others : List (List ℕ)) → AreLabels tokens others → others ≡ labels
  pub ends : ¬ ((slice_get tokens 0 ≡ Some opening_token) × ¬ (Contains (drop 1 tokens) closing_token))

module _ (statements : List Sentence) (index : ℕ) (tokens : List (List ℕ)) where
  -- labels that may be used break no rule that is judged of labels
  pub labels_pass : (ids : List ℕ) (labels : List (List ℕ)) → AllMeant statements
      → HasLabels tokens labels → AreFor statements index ids labels → (rule : ProofRule)
      → proof_rank rule < proof_rank P4 → ¬ (BreaksWhole rule (take index statements) tokens)
  labels_pass ids labels all has each P1 less b = has.ends b
  labels_pass ids labels all has each P2 less b =
      let known = for_known statements index ids labels b.2 each (subst (λ l. Contains l b.2) (has.one b.0 b.1) b.3) in
      b.4 (known.1.at, known.1.s, get_take statements index known.1.at known.1.before ∙ known.1.numbered.there, known.1.named)
  labels_pass ids labels all has each P3 less b =
      let known = for_known statements index ids labels b.2 each (subst (λ l. Contains l b.2) (has.one b.0 b.1) b.3) in
      used_not_idle statements index b.2 known.0 all known.1 b.4 b.5 b.6 b.7 b.8 b.9
  labels_pass ids labels all has each rule less b = absurd (omega arith)

  -- labels that break a rule are at fault by it
  pub labels_fault : (labels : List (List ℕ)) (rule : ProofRule) → HasLabels tokens labels
      → BreaksLabels rule statements index labels → IsWholeFault (take index statements) tokens rule
  labels_fault labels P2 has b = record { broken = (labels, has.are, b.0, b.1, b.2); first = first }
    where
      first : (other : ProofRule) → proof_rank other < proof_rank P2 → ¬ (BreaksWhole other (take index statements) tokens)
      first P1 less broken = has.ends broken
      first other less broken = absurd (omega arith)
  labels_fault labels P3 has b = record {
    broken = (labels, has.are, b.1, b.2, b.3.at, b.3.s, b.3.there, b.3.named, b.3.kind, b.3.idle);
    first = first;
  }
    where
      first : (other : ProofRule) → proof_rank other < proof_rank P3 → ¬ (BreaksWhole other (take index statements) tokens)
      first P1 less broken = has.ends broken
      first P2 less broken = b.0 broken.2 (subst (λ l. Contains l broken.2) (has.one broken.0 broken.1) broken.3) broken.4
      first other less broken = absurd (omega arith)
  labels_fault labels rule has b = absurd b

-- ---- normal proofs

pub normal_labels : (tokens : List (List ℕ)) → IsNormal tokens → HasLabels tokens tokens
normal_labels tokens normal = record {
  are = inl (normal, refl);
  one = λ others are. ⊎_elim (λ n. n.1) (λ c. absurd (normal (ap (λ l. slice_get l 0) c.1.whole))) are;
  ends = λ b. normal b.0;
}

-- ==== what the tokens of a proof say, once their labels have numbers and their letters are read

-- ---- labels and their numbers

-- the number is that of the label, which may be used after the statements before the index
pub record Stands (statements : List Sentence) (index id : ℕ) (label : List ℕ) : Type 0 where
  pub s : Sentence
  pub there : slice_get (labelled_sentences statements) id ≡ Some s
  pub named : IsLabelled label s
  pub usable : IsUsable (take index statements) label

used_stands : (statements : List Sentence) (index id : ℕ) (label : List ℕ) → MayBeUsed statements index label id → Stands statements index id label
used_stands statements index id label m =
    let before = get_take statements index m.at m.before ∙ m.numbered.there in
    record {
      s = m.s;
      there = numbered_get statements id m.at m.s m.numbered;
      named = m.named;
      usable = ⊎_elim (λ h. inl (m.at, m.s, before, h.1, (m.named, h.0))) (λ a. inr (m.at, m.s, before, (m.named, a))) m.kind;
    }

pub for_stands : (statements : List Sentence) (index : ℕ) (ids : List ℕ) (labels : List (List ℕ)) → AreFor statements index ids labels
    → AllZip (Stands statements index) ids labels
for_stands statements index ids labels all =
    zip_weaker _ _ (used_stands statements index) ids labels all

-- ---- moves by numbers and by names

-- by names, moves that these labels may make, with what each of the codes or tokens says of its move
pub record Named {C : Type 0} (statements : List Sentence) (index : ℕ) (R : C → Move (List ℕ) → Type 0) (codes : List C) (steps : List (Move ℕ)) : Type 0 where
  pub moves : List (Move (List ℕ))
  pub each : AllZip R codes moves
  pub numbered : AreNumberedMoves statements steps moves
  pub usable : AllByRecursion (IsUsableMove (take index statements)) moves

one_named : {C : Type 0} (statements : List Sentence) (index : ℕ) (R : C → Move (List ℕ) → Type 0) (c : C) (codes : List C) (step : Move ℕ) (steps : List (Move ℕ)) (move : Move (List ℕ))
    → R c move → IsNumberedMove statements step move → IsUsableMove (take index statements) move → Named statements index R codes steps → Named statements index R (c ∷ codes) (step ∷ steps)
one_named statements index R c codes step steps move here numbered usable rest =
    record { moves = move ∷ rest.moves; each = (here, rest.each); numbered = (numbered, rest.numbered); usable = (usable, rest.usable) }

named_label : (statements : List Sentence) (index id : ℕ) (label : List ℕ) → Stands statements index id label → IsNumberedMove statements (name id) (name label)
named_label statements index id label s = (s.s, label, s.there, s.named, refl)

module _ (statements : List Sentence) (index : ℕ) (ids : List ℕ) (labels : List (List ℕ))
    (all : AllZip (Stands statements index) ids labels) where
  number_named : (n : ℕ) (codes : List Code) (s : Move ℕ) (steps : List (Move ℕ))
      → NumberSays ids (Number n) s → Named statements index (Says labels) codes steps
      → Named statements index (Says labels) (Number n ∷ codes) (s ∷ steps)
  number_named n codes s steps here rest = elim here.2 [
    | inl l ↦
        let at = zip_left (Stands statements index) ids labels here.0 l.0 all l.1 in
        one_named _ _ _ _ _ _ _ (name at.0) (here.0, here.1, inl (at.0, at.1, refl))
        (rw l.2 (named_label statements index l.0 at.0 at.2)) at.2.usable rest
    | inr t ↦
        let count = AllZip-long (Stands statements index) ids labels all in
        one_named _ _ _ _ _ _ _ (again t.0) (here.0, here.1, inr (t.0, rw count t.1, refl))
        (rw t.2 refl) tt rest
  ]

  pub codes_named : (codes : List Code) (steps : List (Move ℕ))
      → AllZip (NumberSays ids) codes steps → Named statements index (Says labels) codes steps
  codes_named [] [] each = record { moves = []; each = tt; numbered = tt; usable = tt }
  codes_named (Tag ∷ codes) (s ∷ steps) each =
      one_named statements index (Says labels) Tag codes s steps mark refl (subst (λ m. IsNumberedMove statements m mark) (sym each.0) refl) tt
      (codes_named codes steps each.1)
  codes_named (Number n ∷ codes) (s ∷ steps) each =
      number_named n codes s steps each.0 (codes_named codes steps each.1)
  codes_named codes steps each = absurd each

names_named : (statements : List Sentence) (index : ℕ) (ids : List ℕ) (labels : List (List ℕ)) → AllZip (Stands statements index) ids labels
    → AreNumberedMoves statements (map name ids) (map name labels) × AllByRecursion (IsUsableMove (take index statements)) (map name labels)
names_named statements index [] [] all = (tt, tt)
names_named statements index (id ∷ ids) (l ∷ labels) all =
    let rest = names_named statements index ids labels all.1 in
    ((named_label statements index id l all.0, rest.0), (all.0.usable, rest.1))
names_named statements index ids labels all = absurd all

-- ---- a proof that breaks no rule over the whole of it

pub whole_of : (before : List Sentence) (tokens : List (List ℕ)) → ((rule : ProofRule) → proof_rank rule < proof_rank P4 → ¬ (BreaksWhole rule before tokens))
    → ¬ (BreaksWhole P4 before tokens) → ¬ (BreaksWhole P5 before tokens) → IsWhole before tokens
whole_of before tokens low p4 p5 P1 = low P1 (omega arith)
whole_of before tokens low p4 p5 P2 = low P2 (omega arith)
whole_of before tokens low p4 p5 P3 = low P3 (omega arith)
whole_of before tokens low p4 p5 P4 = p4
whole_of before tokens low p4 p5 P5 = p5
whole_of before tokens low p4 p5 rule = λ b. b

pub reading_normal : (statements : List Sentence) (index : ℕ) (own : Sentence) (ids : List ℕ) (tokens : List (List ℕ)) → AllMeant statements
    → slice_get statements index ≡ Some own → IsNormal tokens → AreFor statements index ids tokens → IsReading statements index tokens (map name ids)
reading_normal statements index own ids tokens all there normal each =
    let named = names_named statements index ids tokens (for_stands statements index ids tokens each) in
    record {
      whole = whole_of (take index statements) tokens (labels_pass statements index tokens ids tokens all (normal_labels tokens normal) each)
          (λ b. normal (ap (λ l. slice_get l 0) b.1.2.whole)) (λ b. normal (ap (λ l. slice_get l 0) b.1.2.whole));
      own = own;
      there = there;
      moves = map name tokens;
      said = inl (normal, refl);
      numbered = named.0;
      usable = named.1;
    }
