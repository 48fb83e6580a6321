-- Tokens say one row of moves; and where they break no rule over the whole proof, they say one, of
-- labels that may be used.
use Rattle.std.proofs.Common.{◌≡◌, ℕ, suc, ◌+◌, ◌-◌, ◌<◌, ◌≤◌, List, [], ◌∷◌, ◌++◌, length, drop}
use Rattle.std.proofs.Common.{map, slice_get, get_or, Contains, Option, Some, ◌⊎◌, inl, inr, ⊎_elim}
use Rattle.std.proofs.Common.{refl, sym, ap, subst, ◌∙◌, arith, flat_map}
use Rattle.std.specs.List.{AllZip, AllByRecursion}
use Rattle.std.proofs.lemmas.Option.{same_Some, none-some, slice_get_within, slice_get-get_or}
use Rattle.std.proofs.lemmas.Bool.{cases_lt}
use Rattle.mm_base.specs.declared.statement.Kind.{Kind}
use Rattle.mm_base.specs.declared.statement.Kind.TheVariants.{Floating, Essential, Axiom, Provable}
use Rattle.mm_base.proofs.Lists.{cons_parts, two_cuts, append_cases, contains_from_at, get_parted}
use Rattle.mm_base.proofs.Lists.{zip_right, mapped_zip}
use Rattle.mm_code.specs.declared.code.Code.{Code}
use Rattle.mm_code.specs.declared.code.Code.TheVariants.{Number, Tag}
use Rattle.mm_code.specs.declared.code.CodeRule.{CodeRule}
use Rattle.mm_code.specs.Letters.{Letters, LettersBreak as Breaks, HasSpelling}
use Rattle.mm_code.proofs.OneSpelling.{one_reading_only}
use Rattle.mm_frame.specs.Sentence.{Sentence, SomeSentence, IsHypothesis, IsAssertion, IsLabelled}
use Rattle.mm_frame.specs.Active.{IsActive}
use Rattle.mm_frame.specs.Frame.{IsMandatoryAt, AreMandatory}
use Rattle.mm_frame.specs.Form.{HasItsLabel, AllFormed}
use Rattle.mm_frame.proofs.Rules.DecidedStatements.{dec_both, dec_as, dec_some, kind_dec}
use Rattle.mm_frame.proofs.Rules.DecidedStatements.{symbol_dec, contains_dec, mandatory_at_dec}
use Rattle.mm_frame.proofs.Rules.DecidedStatements.{sentence_dec, label_dec, dec_not, dec_or}
use Rattle.mm_frame.proofs.Rules.DecidedStatements.{active_dec}
use Rattle.mm_frame.proofs.Frames.FrameLaws.{those_unique}
use Rattle.mm_frame.proofs.Names.NameNumbers.{same_somes}
use Rattle.mm_step.specs.declared.fault.ProofRule.{ProofRule}
use Rattle.mm_step.specs.declared.fault.ProofRule.TheVariants.{P1, P2, P3, P4, P5}
use Rattle.mm_step.specs.Moves.{Move, name, again, mark}
use Rattle.mm_proof.specs.Tokens.{opening_token, closing_token, IsNormal, IsCompressed, AreLabels}
use Rattle.mm_proof.specs.Tokens.{AreLetters, Says, SayMoves}
use Rattle.mm_step.specs.Steps.{IsUsable, IsUsableMove}
use Rattle.mm_proof.specs.Proof.{BreaksWhole, IsWhole}
use Rattle.mm_frame.proofs.Frames.FrameLaws.{those_hold}
use Rattle.mm_step.proofs.ProofSteps.Derivations.{zip_once}
use Rattle.mm_proof.proofs.Members.{dec_member, those_of, contains_first, contains_later}
use Rattle.mm_proof.proofs.Members.{contains_cases}
use Rattle.mm_proof.proofs.ProofTokens.CodeLetters.{coded_or_broken, breaks_dec, from_one}
use Rattle.mm_code.specs.declared.code.CodeRule.TheVariants as code

-- ---- the parts of a compressed proof

contains_middle : (prefix : List (List ℕ)) (x : List ℕ) (end : List (List ℕ)) → Contains (prefix ++ x ∷ end) x
contains_middle prefix x end =
    contains_from_at (prefix ++ x ∷ end) x (length prefix, get_parted prefix end x)

-- a list parts in one way at its first element of a kind
one_first : (x : List ℕ) (a b c d : List (List ℕ)) → a ++ x ∷ c ≡ b ++ x ∷ d → ¬ (Contains a x) → ¬ (Contains b x) → (a ≡ b) × (c ≡ d)
one_first x a b c d e p q = elim (two_cuts a x c b x d e) [
  | inl h ↦ (h.0, h.2)
  | inr (inl h) ↦ absurd (q (rw h.1 (contains_middle a x h.0)))
  | inr (inr h) ↦ absurd (p (rw h.1 (contains_middle b x h.0)))
]

-- and does part, where it has one
some_first : (x : List ℕ) (xs : List (List ℕ))
    → (¬ (Contains xs x)) ⊎ ((a : List (List ℕ)) × (c : List (List ℕ)) × (xs ≡ a ++ x ∷ c) × ¬ (Contains a x))
some_first x [] = inl (λ h. absurd (let less : h.0 < 0 = h.1 in omega arith))
some_first x (y ∷ xs) = go (symbol_dec y x) (some_first x xs)
  where
    go : Dec (y ≡ x) → (¬ (Contains xs x)) ⊎ ((a : List (List ℕ)) × (c : List (List ℕ)) × (xs ≡ a ++ x ∷ c) × ¬ (Contains a x))
        → (¬ (Contains (y ∷ xs) x)) ⊎ ((a : List (List ℕ)) × (c : List (List ℕ)) × (y ∷ xs ≡ a ++ x ∷ c) × ¬ (Contains a x))
    go (yes e) h = inr ([], xs, ap (λ w. w ∷ xs) e, λ i. absurd (let less : i.0 < 0 = i.1 in omega arith))
    go (no n) (inl none) = inl (λ i. ⊎_elim n none (contains_cases y xs x i))
    go (no n) (inr p) = inr (y ∷ p.0, p.1, ap (λ l. y ∷ l) p.2, λ i. ⊎_elim n p.3 (contains_cases y p.0 x i))

pub normal_or_compressed : (tokens labels letters : List (List ℕ)) → IsNormal tokens → IsCompressed tokens labels letters → ⊥
normal_or_compressed tokens labels letters normal c = normal (ap (λ l. slice_get l 0) c.whole)

pub compressed_once : (tokens l m a b : List (List ℕ)) → IsCompressed tokens l a → IsCompressed tokens m b → (l ≡ m) × (a ≡ b)
compressed_once tokens l m a b c d =
    one_first closing_token l m a b (cons_parts opening_token opening_token (l ++ closing_token ∷ a) (m ++ closing_token ∷ b) (sym c.whole ∙ d.whole)).1 c.first d.first

pub labels_once : (tokens l m : List (List ℕ)) → AreLabels tokens l → AreLabels tokens m → l ≡ m
labels_once tokens l m (inl p) (inl q) = p.1 ∙ sym q.1
labels_once tokens l m (inl p) (inr q) = absurd (normal_or_compressed tokens m q.0 p.0 q.1)
labels_once tokens l m (inr p) (inl q) = absurd (normal_or_compressed tokens l p.0 q.0 p.1)
labels_once tokens l m (inr p) (inr q) = (compressed_once tokens l m p.0 q.0 p.1 q.1).0

pub letters_once : (tokens : List (List ℕ)) (t u : List ℕ) → AreLetters tokens t → AreLetters tokens u → t ≡ u
letters_once tokens t u p q =
    p.3 ∙ ap (λ (l : List (List ℕ)). flat_map (λ piece. piece) l) (compressed_once tokens p.0 q.0 p.1 q.1 p.2 q.2).1 ∙ sym q.3

-- a proof is normal, or compressed, or its list has no end
pub data Form (before : List Sentence) (tokens : List (List ℕ)) : Type 0 where
  normal : IsNormal tokens → Form before tokens
  compressed : (labels letters : List (List ℕ)) → IsCompressed tokens labels letters → Form before tokens
  endless : BreaksWhole P1 before tokens → Form before tokens

pub form_of : (before : List Sentence) (tokens : List (List ℕ)) → Form before tokens
form_of before [] = normal (λ e. none-some opening_token e)
form_of before (t ∷ tokens) = go (symbol_dec t opening_token) (some_first closing_token tokens)
  where
    go : Dec (t ≡ opening_token) → (¬ (Contains tokens closing_token)) ⊎ ((a : List (List ℕ)) × (c : List (List ℕ)) × (tokens ≡ a ++ closing_token ∷ c) × ¬ (Contains a closing_token))
        → Form before (t ∷ tokens)
    go (no n) h = normal (λ e. n (same_Some t opening_token e))
    go (yes e) (inl none) = endless (ap Some e, none)
    go (yes e) (inr p) = compressed p.0 p.1 (record { whole = ap (λ w. w ∷ tokens) e ∙ ap (λ l. opening_token ∷ l) p.2; first = p.3 })

-- what has no end has no labels and letters
endless_compressed : (before : List Sentence) (tokens labels letters : List (List ℕ)) → BreaksWhole P1 before tokens → IsCompressed tokens labels letters → ⊥
endless_compressed before tokens labels letters b c =
    b.1 (rw c.whole (contains_middle labels closing_token letters))

endless_labels : (before : List Sentence) (tokens labels : List (List ℕ)) → BreaksWhole P1 before tokens → AreLabels tokens labels → ⊥
endless_labels before tokens labels b (inl p) = p.0 b.0
endless_labels before tokens labels b (inr p) = endless_compressed before tokens labels p.0 b p.1

-- ---- the rules over the whole proof can be decided

-- something about a label
some_label_dec : (before : List Sentence) (tokens : List (List ℕ)) (P : List ℕ → Type 0) → ((label : List ℕ) → Dec (P label))
    → Dec ((labels : List (List ℕ)) × AreLabels tokens labels × (label : List ℕ) × Contains labels label × P label)
some_label_dec before tokens P each = elim (form_of before tokens) [
  | normal n ↦ of_labels tokens (inl (n, refl))
  | compressed labels letters c ↦ of_labels labels (inr (letters, c))
  | endless b ↦ no (λ h. endless_labels before tokens h.0 b h.1)
]
  where
    of_labels : (labels : List (List ℕ)) → AreLabels tokens labels
        → Dec ((labels : List (List ℕ)) × AreLabels tokens labels × (label : List ℕ) × Contains labels label × P label)
    of_labels labels are = dec_as (λ p. (labels, are, p.0, p.1, p.2))
        (λ h. (h.2, rw (labels_once tokens h.0 labels h.1 are) at h.3, h.4)) (dec_member P each labels)

some_letters_dec : (before : List Sentence) (tokens : List (List ℕ)) (rule : CodeRule) → Dec ((text : List ℕ) × AreLetters tokens text × Breaks rule text)
some_letters_dec before tokens rule = elim (form_of before tokens) [
  | normal n ↦ no (λ h. normal_or_compressed tokens h.1.0 h.1.1 n h.1.2)
  | compressed labels letters c ↦
      let text : List ℕ = flat_map (λ piece. piece) letters in
      let are : AreLetters tokens text = (labels, letters, c, refl) in
      dec_as (λ b. (text, are, b)) (λ h. subst (Breaks rule) (letters_once tokens h.0 text h.1 are) h.2) (breaks_dec rule text)
  | endless b ↦ no (λ h. endless_compressed before tokens h.1.0 h.1.1 b h.1.2)
]

first_dec : (tokens : List (List ℕ)) → Dec (slice_get tokens 0 ≡ Some opening_token)
first_dec [] = no (λ e. none-some opening_token e)
first_dec (t ∷ tokens) = dec_as (λ e. ap Some e) (λ e. same_Some t opening_token e) (symbol_dec t opening_token)

pub whole_dec : (before : List Sentence) (tokens : List (List ℕ)) (rule : ProofRule) → Dec (BreaksWhole rule before tokens)
whole_dec before tokens P1 = dec_both (first_dec tokens) (dec_not (contains_dec (drop 1 tokens) closing_token))
whole_dec before tokens P2 = some_label_dec before tokens (λ label. ¬ (SomeSentence before (IsLabelled label)))
    (λ label. dec_not (sentence_dec before (IsLabelled label) (label_dec label)))
whole_dec before tokens P3 = dec_as (λ h. (h.0, h.1, h.2, h.3, h.4.0, h.4.1, h.4.2, h.4.3.0.0, h.4.3.0.1, h.4.3.1)) (λ h. (h.0, h.1, h.2, h.3, (h.4, h.5, h.6, ((h.7, h.8), h.9))))
    (some_label_dec before tokens (λ label. (index : ℕ) × (h : Sentence) × (slice_get before index ≡ Some h) × ((IsLabelled label h × IsHypothesis h.kind) × ¬ (IsActive before index)))
    (λ label. dec_some (λ index (h : Sentence). (IsLabelled label h × IsHypothesis h.kind) × ¬ (IsActive before index))
    (λ index h. dec_both (dec_both (label_dec label h) (dec_or (kind_dec h.kind Floating) (kind_dec h.kind Essential))) (dec_not (active_dec before index))) before))
whole_dec before tokens P4 = some_letters_dec before tokens code.P4
whole_dec before tokens P5 = some_letters_dec before tokens code.P5
whole_dec before tokens rule = no (λ b. b)

-- ---- tokens say one row of moves

-- a code says one move
pub says_once : (labels : List (List ℕ)) (c : Code) (a b : Move (List ℕ)) → Says labels c a → Says labels c b → a ≡ b
says_once labels Tag a b p q = p ∙ sym q
says_once labels (Number number) a b p q =
    let index : p.0 ≡ q.0 = omega (arith, p.1, q.1) in
    ⊎_elim
    (λ x. ⊎_elim
    (λ y. cc (x.1, x.2, y.1, y.2))
    (λ y. absurd (omega (arith, slice_get_within labels p.0 x.0 x.1, y.1))) q.2)
    (λ x. ⊎_elim
    (λ y. absurd (omega (arith, slice_get_within labels q.0 y.0 y.1, x.1)))
    (λ y. let tag : x.0 ≡ y.0 = omega (arith, x.1, y.1) in cc (x.2, y.2)) q.2) p.2

pub moves_once : (before : List Sentence) (s : Sentence) (tokens : List (List ℕ)) (a b : List (Move (List ℕ))) → SayMoves before s tokens a → SayMoves before s tokens b → a ≡ b
moves_once before s tokens a b (inl p) (inl q) = p.1 ∙ sym q.1
moves_once before s tokens a b (inl p) (inr q) = absurd (normal_or_compressed tokens q.listed q.letters p.0 q.parts)
moves_once before s tokens a b (inr p) (inl q) = absurd (normal_or_compressed tokens p.listed p.letters q.0 p.parts)
moves_once before s tokens a b (inr p) (inr q) =
    let parts = compressed_once tokens p.listed q.listed p.letters q.letters p.parts q.parts in
    let codes : p.codes ≡ q.codes = one_reading_only (flat_map (λ piece. piece) q.letters) p.codes q.codes
    (subst (λ (l : List (List ℕ)). Letters (flat_map (λ piece. piece) l) p.codes) parts.1 p.coded) q.coded in
    let hypotheses : p.hypotheses ≡ q.hypotheses = those_unique (IsMandatoryAt before s) 0 before p.hypotheses q.hypotheses p.mandatory q.mandatory in
    let labels : p.labels ≡ q.labels = same_somes p.labels q.labels (sym p.labelled ∙ ap (map (λ (h : Sentence). h.label)) hypotheses ∙ q.labelled) in
    let each = rw (labels, parts.0, codes) at p.each in
    zip_once (Says (q.labels ++ q.listed)) (Says (q.labels ++ q.listed)) q.codes a b (says_once (q.labels ++ q.listed)) each q.each

-- ---- tokens that break no rule over the whole proof say moves

pub labels_of : (before : List Sentence) (s : Sentence) (hypotheses : List Sentence) → AllFormed before
    → ((i : ℕ) (h : Sentence) → slice_get hypotheses i ≡ Some h → (k : ℕ) × (slice_get before k ≡ Some h) × IsHypothesis h.kind)
    → (labels : List (List ℕ)) × (map (λ (h : Sentence). h.label) hypotheses ≡ map Some labels)
labels_of before s [] formed are = ([], refl)
labels_of before s (h ∷ hypotheses) formed are =
    let a = are 0 h refl in
    let l = label_of h.kind h.label a.2 (formed a.0 h a.1).label in
    let others = labels_of before s hypotheses formed (λ i g e. are (suc i) g e) in
    (l.0 ∷ others.0, ap (λ o. o ∷ map (λ (g : Sentence). g.label) hypotheses) l.1 ∙ ap (λ r. Some l.0 ∷ r) others.1)
  where
    label_of : (k : Kind) (o : Option (List ℕ)) → IsHypothesis k → HasItsLabel k o → (l : List ℕ) × (o ≡ Some l)
    label_of k o (inl e) n = let m : HasItsLabel Floating o = subst (λ j. HasItsLabel j o) e n in (m.0, m.1)
    label_of k o (inr e) n = let m : HasItsLabel Essential o = subst (λ j. HasItsLabel j o) e n in (m.0, m.1)

-- a mandatory hypothesis is an active one
pub mandatory_active : (before : List Sentence) (s : Sentence) (hypotheses : List Sentence) (i : ℕ) (h : Sentence) → AreMandatory before s hypotheses → slice_get hypotheses i ≡ Some h
    → (k : ℕ) × (slice_get before k ≡ Some h) × IsActive before k × IsHypothesis h.kind
mandatory_active before s hypotheses i h are there =
    let t = those_hold (IsMandatoryAt before s) 0 before hypotheses i h are there in
    let at : 0 + t.0 ≡ t.0 = omega arith in
    (t.0, t.1, subst (IsActive before) at t.2.0, ⊎_elim (λ e. inr e) (λ f. inl f.2.0) t.2.1)

-- a number from 1 on says a move
number_says : (labels : List (List ℕ)) (number : ℕ) → 1 ≤ number → (move : Move (List ℕ)) × Says labels (Number number) move
number_says labels number from_one = elim (cases_lt (number - 1) (length labels)) [
  | inl less ↦
      let label : List ℕ = get_or labels (number - 1) [] in
      (name label, (number - 1, omega arith, inl (label, slice_get-get_or labels (number - 1) [] less, refl)))
  | inr more ↦ (again (number - 1 - length labels), (number - 1, omega arith, inr (number - 1 - length labels, omega arith, refl)))
]

code_says : (labels : List (List ℕ)) (c : Code) → HasSpelling c → (move : Move (List ℕ)) × Says labels c move
code_says labels (Number number) h = number_says labels number h
code_says labels Tag h = (mark, refl)

codes_say : (labels : List (List ℕ)) (codes : List Code) → AllByRecursion HasSpelling codes → (moves : List (Move (List ℕ))) × AllZip (Says labels) codes moves
codes_say labels [] h = ([], tt)
codes_say labels (c ∷ codes) h =
    let m = code_says labels c h.0 in
    let others = codes_say labels codes h.1 in
    (m.0 ∷ others.0, (m.1, others.1))

pub some_moves : (before : List Sentence) (s : Sentence) (tokens : List (List ℕ)) → AllFormed before → IsWhole before tokens → (moves : List (Move (List ℕ))) × SayMoves before s tokens moves
some_moves before s tokens formed whole = elim (form_of before tokens) [
  | normal n ↦ (map name tokens, inl (n, refl))
  | compressed labels letters c ↦
      let text = flat_map (λ piece. piece) letters in
      elim (coded_or_broken text) [
        | inl coded ↦ of_codes labels letters c coded.0 coded.1
        | inr (code.P4, b) ↦ absurd (whole P4 (text, (labels, letters, c, refl), b))
        | inr (code.P5, b) ↦ absurd (whole P5 (text, (labels, letters, c, refl), b))
      ]
  | endless b ↦ absurd (whole P1 b)
]
  where
    of_codes : (labels letters : List (List ℕ)) → IsCompressed tokens labels letters → (codes : List Code) → Letters (flat_map (λ piece. piece) letters) codes
        → (moves : List (Move (List ℕ))) × SayMoves before s tokens moves
    of_codes labels letters c codes coded =
        let frame : (hypotheses : List Sentence) × AreMandatory before s hypotheses = those_of (IsMandatoryAt before s) (mandatory_at_dec before s) 0 before in
        let named = labels_of before s frame.0 formed (λ i h e. let a = mandatory_active before s frame.0 i h frame.1 e in (a.0, a.1, a.3)) in
        let said = codes_say (named.0 ++ labels) codes (from_one (flat_map (λ piece. piece) letters) codes coded) in (
          said.0,
          inr (record {
            listed = labels;
            letters = letters;
            parts = c;
            codes = codes;
            coded = coded;
            hypotheses = frame.0;
            mandatory = frame.1;
            labels = named.0;
            labelled = named.1;
            each = said.1;
          }),
        )

-- ---- and their labels may be used

-- what has a label is a hypothesis or an assertion
labelled_kind : (k : Kind) (o : Option (List ℕ)) (label : List ℕ) → HasItsLabel k o → o ≡ Some label → IsHypothesis k ⊎ IsAssertion k
labelled_kind Floating o label n e = inl (inl refl)
labelled_kind Essential o label n e = inl (inr refl)
labelled_kind Axiom o label n e = inr (inl refl)
labelled_kind Provable o label n e = inr (inr refl)
labelled_kind k o label n e = absurd (none-some label (sym n ∙ e))

-- a label that breaks neither P2 nor P3
label_usable : (before : List Sentence) (tokens labels : List (List ℕ)) (label : List ℕ) → AllFormed before → IsWhole before tokens → AreLabels tokens labels → Contains labels label
    → IsUsable before label
label_usable before tokens labels label formed whole are used =
    elim (sentence_dec before (IsLabelled label) (label_dec label)) [
      | no n ↦ absurd (whole P2 (labels, are, label, used, n))
      | yes t ↦ elim (labelled_kind t.1.kind t.1.label label (formed t.0 t.1 t.2).label t.3) [
        | inl h ↦ elim (active_dec before t.0) [
          | yes active ↦ inl (t.0, t.1, t.2, active, (t.3, h))
          | no n ↦ absurd (whole P3 (labels, are, label, used, t.0, t.1, t.2, t.3, h, n))
        ]
        | inr a ↦ inr (t.0, t.1, t.2, (t.3, a))
      ]
    ]

usable_names : (before : List Sentence) (labels : List (List ℕ)) → ((label : List ℕ) → Contains labels label → IsUsable before label) → AllByRecursion (IsUsableMove before) (map name labels)
usable_names before [] each = tt
usable_names before (label ∷ labels) each =
    (each label (contains_first label labels), usable_names before labels (λ l c. each l (contains_later label labels l c)))

usable_codes : (before : List Sentence) (labels : List (List ℕ)) (codes : List Code) (moves : List (Move (List ℕ))) → ((i : ℕ) (label : List ℕ) → slice_get labels i ≡ Some label → IsUsable before label)
    → AllZip (Says labels) codes moves → AllByRecursion (IsUsableMove before) moves
usable_codes before labels [] [] each z = tt
usable_codes before labels (Tag ∷ codes) (m ∷ moves) each z =
    (rw z.0 tt, usable_codes before labels codes moves each z.1)
usable_codes before labels (Number number ∷ codes) (m ∷ moves) each z = (
  ⊎_elim (λ l. rw l.2 (each z.0.0 l.0 l.1)) (λ t. rw t.2 tt) z.0.2,
  usable_codes before labels codes moves each z.1,
)
usable_codes before labels codes moves each z = absurd z

pub labelled_at : (hypotheses : List Sentence) (labels : List (List ℕ)) (i : ℕ) (label : List ℕ) → map (λ (h : Sentence). h.label) hypotheses ≡ map Some labels → slice_get labels i ≡ Some label
    → (h : Sentence) × (slice_get hypotheses i ≡ Some h) × IsLabelled label h
labelled_at hypotheses labels i label e there =
    zip_right (λ (h : Sentence) l. h.label ≡ Some l) hypotheses labels i label
    (mapped_zip (λ (h : Sentence). h.label) Some _ (λ h l same. same) hypotheses labels e) there

pub moves_usable : (before : List Sentence) (s : Sentence) (tokens : List (List ℕ)) (moves : List (Move (List ℕ))) → AllFormed before → IsWhole before tokens → SayMoves before s tokens moves
    → AllByRecursion (IsUsableMove before) moves
moves_usable before s tokens moves formed whole (inl p) =
    subst (AllByRecursion (IsUsableMove before)) (sym p.1) (usable_names before tokens (λ label used. label_usable before tokens tokens label formed whole (inl (p.0, refl)) used))
moves_usable before s tokens moves formed whole (inr p) =
    usable_codes before (p.labels ++ p.listed) p.codes moves (λ i label e. ⊎_elim
    (λ h. let t = labelled_at p.hypotheses p.labels i label p.labelled h in
    let a = mandatory_active before s p.hypotheses i t.0 p.mandatory t.1 in
    inl (a.0, t.0, a.1, a.2, (t.2, a.3)))
    (λ h. label_usable before tokens _ label formed whole (inr (p.letters, p.parts)) (contains_from_at _ label (h.0, h.2)))
    (append_cases p.labels p.listed i label e)) p.each
