-- What changes, and what doesn't, where a `$d` for each pair is put behind statements: it declares
-- no symbol, has no label, and opens and closes no block. So a step breaks the same rules, except
-- P12.
use Rattle.std.proofs.Common.{◌≡◌, ℕ, zero, suc, ◌+◌, ◌<◌, List, [], ◌∷◌, ◌++◌, length, map, take}
use Rattle.std.proofs.Common.{slice_get, Contains, Some, None, ◌⊎◌, inl, inr, refl, sym, ap}
use Rattle.std.proofs.Common.{subst, ◌∙◌, arith, append-nil, append_assoc, option_map}
use Rattle.std.proofs.lemmas.Option.{slice_get_within, slice_get-map}
use Rattle.std.proofs.lemmas.List.{take-append-le, length-append}
use Rattle.mm_base.specs.declared.statement.Kind.TheVariants.{Distinct, Variables}
use Rattle.mm_base.proofs.Lists.{get_kept, get_after, append_cases, at_from_contains}
use Rattle.mm_frame.specs.Sentence.{Sentence, IsLabelled}
use Rattle.mm_frame.specs.Active.{IsActive, IsVariable}
use Rattle.mm_frame.specs.Frame.{IsMandatory, AreMandatory, IsDistinct, IsMandatoryPair}
use Rattle.mm_frame.proofs.Blocks.ActiveStatements.{active_last, active_stays, active_falls}
use Rattle.mm_step.specs.declared.fault.ProofRule.{ProofRule}
use Rattle.mm_step.specs.declared.fault.ProofRule.TheVariants.{P8, P9, P10, P11, P12, L1}
use Rattle.mm_step.specs.Substitution.{Symbol, IsOn}
use Rattle.mm_step.specs.Tree.{Names, ShareNoVariable, AreDistinct}
use Rattle.mm_step.specs.Moves.{Move, name, again, mark}
use Rattle.mm_step.specs.Proof.{MeetsHypotheses, BreaksStep, FirstAtMove}
use Rattle.mm_step.specs.Proof.{SomeReplacedPair}
use Rattle.mm_distinct.specs.Lacking.{distinct_sentence, with_pairs}
use Rattle.mm_step.proofs.ByNumbers.VariablesOfLists.{mapped_at}

-- ==== the statements

-- what is active stays so
pub active_added : (pairs : List (Symbol × Symbol)) (before : List Sentence) (i : ℕ)
    → IsActive before i → IsActive (with_pairs before pairs) i
active_added [] before i active = subst (λ l. IsActive l i) (sym (append-nil before)) active
active_added (p ∷ pairs) before i active =
    subst (λ l. IsActive l i) (append_assoc before (distinct_sentence p ∷ [])
    (map distinct_sentence pairs))
    (active_added pairs (before ++ distinct_sentence p ∷ []) i
    (active_stays before (distinct_sentence p) i (λ e. absurd cc) active))

-- each `$d` that is put there is active
added_active : (pairs : List (Symbol × Symbol)) (before : List Sentence) (k : ℕ) → k < length pairs
    → IsActive (with_pairs before pairs) (length before + k)
added_active [] before k less = absurd (omega arith)
added_active (p ∷ pairs) before zero less =
    let here : length before ≡ length before + 0 = omega arith in
    subst (IsActive (with_pairs before (p ∷ pairs))) here
    (subst (λ l. IsActive l (length before)) (append_assoc before (distinct_sentence p ∷ [])
    (map distinct_sentence pairs))
    (active_added pairs (before ++ distinct_sentence p ∷ []) (length before)
    (active_last before (distinct_sentence p))))
added_active (p ∷ pairs) before (suc k) less =
    let d : Sentence = distinct_sentence p in
    let long : length (before ++ d ∷ []) + k ≡ length before + suc k =
    omega (arith, length-append before (d ∷ [])) in
    subst (IsActive (with_pairs before (p ∷ pairs))) long
    (subst (λ l. IsActive l (length (before ++ d ∷ []) + k)) (append_assoc before (d ∷ [])
    (map distinct_sentence pairs))
    (added_active pairs (before ++ d ∷ []) k (omega arith)))

module _ (before : List Sentence) (pairs : List (Symbol × Symbol)) where
  -- a statement stands where it stood
  pub there_added : (i : ℕ) (s : Sentence) → slice_get before i ≡ Some s
      → slice_get (with_pairs before pairs) i ≡ Some s
  there_added i s there = get_kept before (map distinct_sentence pairs) i s there

  -- each is one of those before, or one of the `$d`
  pub added_cases : (i : ℕ) (s : Sentence) → slice_get (with_pairs before pairs) i ≡ Some s
      → (slice_get before i ≡ Some s) ⊎ ((p : Symbol × Symbol) × (distinct_sentence p ≡ s))
  added_cases i s there = elim (append_cases before (map distinct_sentence pairs) i s there) [
    | inl at ↦ inl at
    | inr (j, is, at) ↦ let p = mapped_at distinct_sentence pairs j s at in inr (p.0, p.2)
  ]

  pub same_prefix : (i : ℕ) (s : Sentence) → slice_get before i ≡ Some s
      → take i (with_pairs before pairs) ≡ take i before
  same_prefix i s there =
      let less = slice_get_within before i s there in
      take-append-le i before (map distinct_sentence pairs) (omega (arith, less))

  -- the variables are the same
  pub variable_added : (u : List ℕ) → IsVariable before u → IsVariable (with_pairs before pairs) u
  variable_added u v = (v.0, v.1, there_added v.0 v.1 v.2, v.3)

  pub variable_fall : (u : List ℕ) → IsVariable (with_pairs before pairs) u → IsVariable before u
  variable_fall u v = elim (added_cases v.0 v.1 v.2) [
    | inl there ↦ (v.0, v.1, there, v.3)
    | inr (p, is) ↦ let e : Distinct ≡ Variables = ap (λ (s : Sentence). s.kind) is ∙ v.3.0 in
        absurd cc
  ]

  -- an active pair stays one
  pub distinct_added : (x y : List ℕ) → IsDistinct before x y
      → IsDistinct (with_pairs before pairs) x y
  distinct_added x y d = (
    d.0,
    (
      d.1.0,
      d.1.1,
      there_added d.1.0 d.1.1 d.1.2,
      active_added pairs before d.1.0 d.1.3,
      d.1.4,
    ),
  )

  -- each of the pairs becomes one
  pub distinct_of : (p : Symbol × Symbol) → Contains pairs p → (p.0 ≡ p.1 → ⊥)
      → IsDistinct (with_pairs before pairs) p.0 p.1
  distinct_of p has differ =
      let at = at_from_contains pairs p has in
      let less = slice_get_within pairs at.0 p at.1 in
      let there = get_after before (map distinct_sentence pairs) at.0 (distinct_sentence p)
      (slice_get-map distinct_sentence pairs at.0 ∙ ap (λ o. option_map distinct_sentence o)
      at.1) in (
        differ,
        (
          length before + at.0,
          distinct_sentence p,
          there,
          added_active pairs before at.0
              less,
          (refl, (0, omega arith, refl), (1, omega arith, refl)),
        ),
      )

  pub share_added : (e f : List (List ℕ)) → ShareNoVariable before e f
      → ShareNoVariable (with_pairs before pairs) e f
  share_added e f share u v in_e in_f = share u (variable_fall u v) in_e in_f

  share_fall : (e f : List (List ℕ)) → ShareNoVariable (with_pairs before pairs) e f
      → ShareNoVariable before e f
  share_fall e f share u v in_e in_f = share u (variable_added u v) in_e in_f

  apart_added : (e f : List (List ℕ)) → AreDistinct before e f
      → AreDistinct (with_pairs before pairs) e f
  apart_added e f apart u v p q a b =
      distinct_added u v (apart u v (variable_fall u p) (variable_fall v q) a b)

  -- ==== the step by a label

  module _ (label : List ℕ) (index : ℕ) (a : Sentence) (hs : List Sentence) where
    pub names_added : Names before label index a hs → Names (with_pairs before pairs) label index a
        hs
    names_added n = record {
      there = there_added index a n.there;
      named = n.named;
      kind = n.kind;
      mandatory = subst (λ l. AreMandatory l a hs) (sym (same_prefix index a n.there)) n.mandatory;
    }

    -- a label is that of one of the statements before
    pub named_before : Names (with_pairs before pairs) label index a hs
        → slice_get before index ≡ Some a
    named_before n = elim (added_cases index a n.there) [
      | inl there ↦ there
      | inr (p, is) ↦ let e : None ≡ Some label = ap (λ (s : Sentence). s.label) is ∙ n.named in
          absurd cc
    ]

    pub names_fall : Names (with_pairs before pairs) label index a hs
        → Names before label index a hs
    names_fall n = record {
      there = named_before n;
      named = n.named;
      kind = n.kind;
      mandatory = subst (λ l. AreMandatory l a hs) (same_prefix index a (named_before n))
          n.mandatory;
    }

  module _ (stack : List (List (List ℕ))) (label : List ℕ) where
    -- what the step meets is the same
    abbrev pub meets_added : MeetsHypotheses before stack label
        → MeetsHypotheses (with_pairs before pairs) stack label
    meets_added m = record {
      index = m.index;
      assertion = m.assertion;
      hypotheses = m.hypotheses;
      names = names_added label m.index m.assertion m.hypotheses m.names;
      rest = m.rest;
      entries = m.entries;
      split = m.split;
      paired = m.paired;
      σ = m.σ;
      on = subst (λ l. IsOn (IsMandatory l m.assertion) m.σ) (sym
          (same_prefix m.index m.assertion m.names.there)) m.on;
      replaced = m.replaced;
    }

    abbrev pub meets_fall : MeetsHypotheses (with_pairs before pairs) stack label
        → MeetsHypotheses before stack label
    meets_fall m = record {
      index = m.index;
      assertion = m.assertion;
      hypotheses = m.hypotheses;
      names = names_fall label m.index m.assertion m.hypotheses m.names;
      rest = m.rest;
      entries = m.entries;
      split = m.split;
      paired = m.paired;
      σ = m.σ;
      on = subst (λ l. IsOn (IsMandatory l m.assertion) m.σ) (same_prefix m.index m.assertion
          (named_before label m.index m.assertion m.hypotheses m.names)) m.on;
      replaced = m.replaced;
    }

    pub pair_added : (m : MeetsHypotheses before stack label) (x y : List ℕ)
        → IsMandatoryPair (take m.index before) m.assertion x y
        → IsMandatoryPair (take m.index (with_pairs before pairs)) m.assertion x y
    pair_added m x y pair = subst (λ l. IsMandatoryPair l m.assertion x y)
        (sym (same_prefix m.index m.assertion m.names.there)) pair

    pub pair_back : (m : MeetsHypotheses before stack label) (x y : List ℕ)
        → IsMandatoryPair (take m.index (with_pairs before pairs)) m.assertion x y
        → IsMandatoryPair (take m.index before) m.assertion x y
    pair_back m x y pair = subst (λ l. IsMandatoryPair l m.assertion x y)
        (same_prefix m.index m.assertion m.names.there) pair

    -- what is so of some replaced pair
    pub some_added : (P Q : List (List ℕ) → List (List ℕ) → Type 0)
        → ((e f : List (List ℕ)) → P e f → Q e f)
        → SomeReplacedPair before stack label P → SomeReplacedPair (with_pairs before pairs) stack
        label Q
    some_added P Q so b =
        (meets_added b.0, b.1, b.2, b.3, b.4, pair_added b.0 b.1 b.2 b.5, b.6, b.7, so b.3 b.4 b.8)

    some_fall : (P Q : List (List ℕ) → List (List ℕ) → Type 0)
        → ((e f : List (List ℕ)) → P e f → Q e f)
        → SomeReplacedPair (with_pairs before pairs) stack label P
        → SomeReplacedPair before stack label Q
    some_fall P Q so b = (
      meets_fall b.0,
      b.1,
      b.2,
      b.3,
      b.4,
      pair_back (meets_fall b.0) b.1 b.2 b.5,
      b.6,
      b.7,
      so
          b.3 b.4 b.8,
    )

    -- another rule that is broken is broken still
    breaks_added : (Fits : List (List ℕ) → Type 0) (rule : ProofRule) → (rule ≡ P12 → ⊥)
        → BreaksStep Fits rule before stack label → BreaksStep Fits rule (with_pairs before pairs)
        stack label
    breaks_added Fits P8 other b = (b.0, b.1, b.2, names_added label b.0 b.1 b.2 b.3, b.4)
    breaks_added Fits P9 other b = (meets_added b.0, b.1)
    breaks_added Fits P10 other b = (meets_added b.0, b.1)
    breaks_added Fits P11 other b =
        some_added (λ e f. ¬ (ShareNoVariable before e f)) (λ e f. ¬
        (ShareNoVariable (with_pairs before pairs) e f))
        (λ e f not share. not (share_fall e f share)) b
    breaks_added Fits P12 other b = absurd (other refl)
    breaks_added Fits L1 other (inl h) =
        inl (h.0, h.1, there_added h.0 h.1 h.2, active_added pairs before h.0 h.3, h.4)
    breaks_added Fits L1 other (inr b) = inr (meets_added b.0, b.1)
    breaks_added Fits rule other b = b

    -- what is broken was so before
    pub breaks_fall : (Fits : List (List ℕ) → Type 0) (rule : ProofRule)
        → BreaksStep Fits rule (with_pairs before pairs) stack label
        → BreaksStep Fits rule before stack label
    breaks_fall Fits P8 b = (b.0, b.1, b.2, names_fall label b.0 b.1 b.2 b.3, b.4)
    breaks_fall Fits P9 b = (meets_fall b.0, b.1)
    breaks_fall Fits P10 b = (meets_fall b.0, b.1)
    breaks_fall Fits P11 b =
        some_fall (λ e f. ¬ (ShareNoVariable (with_pairs before pairs) e f))
        (λ e f. ¬ (ShareNoVariable before e f))
        (λ e f not share. not (share_added e f share)) b
    breaks_fall Fits P12 b =
        some_fall (λ e f. ¬ (AreDistinct (with_pairs before pairs) e f))
        (λ e f. ¬ (AreDistinct before e f))
        (λ e f not apart. not (apart_added e f apart)) b
    breaks_fall Fits L1 (inl h) = elim (added_cases h.0 h.1 h.2) [
      | inl there ↦
          let less = slice_get_within before h.0 h.1 there in
          inl (h.0, h.1, there, active_falls before (map distinct_sentence pairs) h.0 less h.3, h.4)
      | inr (p, is) ↦ absurd (unlabelled p h.1 is h.4.0)
    ]
      where
        unlabelled : (p : Symbol × Symbol) (s : Sentence) → distinct_sentence p ≡ s
            → IsLabelled label s → ⊥
        unlabelled p s is named = let e : None ≡ Some label = ap (λ (t : Sentence). t.label) is
            ∙ named in absurd cc
    breaks_fall Fits L1 (inr b) = inr (meets_fall b.0, b.1)
    breaks_fall Fits rule b = b

  -- the rule that a move breaks first, if it isn't P12, is the same
  pub first_added : (Fits : List (List ℕ) → Type 0) (rule : ProofRule)
      (stack kept : List (List (List ℕ)))
      (move : Move (List ℕ)) → (rule ≡ P12 → ⊥) → FirstAtMove Fits rule before stack kept move
      → FirstAtMove Fits rule (with_pairs before pairs) stack kept move
  first_added Fits rule stack kept (name label) other f = record {
    broken = breaks_added stack label Fits rule other f.broken;
    first = λ q less b. f.first q less (breaks_fall stack label Fits q b);
  }
  first_added Fits rule stack kept (again tag) other f = record {
    broken = f.broken;
    first =
        f.first;
  }
  first_added Fits rule stack kept mark other f = record { broken = f.broken; first = f.first }
