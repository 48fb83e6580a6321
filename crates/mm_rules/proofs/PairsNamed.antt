-- Pairs by their numbers and by their names.
use Rattle.std.proofs.Common.{◌≡◌, ℕ, ◌<◌, List, [], take, inl, inr}
use Rattle.std.proofs.Common.{slice_get, Some, ap, sym, subst, ◌∙◌, arith, Contains, option_map}
use Rattle.std.proofs.lemmas.List.{take-take}
use Rattle.std.proofs.lemmas.Option.{slice_get-map, same_Some}
use Rattle.mm_base.proofs.Lists.{at_from_contains, contains_from_at, get_from_take}
use Rattle.mm_frame.specs.Sentence.{Sentence}
use Rattle.mm_frame.specs.Numbers.{IsNumberOf, IsNumbered}
use Rattle.mm_frame.specs.Rules.{AllMeant}
use Rattle.mm_frame.specs.Frame.{IsMandatoryPair}
use Rattle.mm_frame.specs.FrameIndex.{ArePairs}
use Rattle.mm_frame.specs.declared.distinct.DistinctPair.{DistinctPair}
use Rattle.mm_frame.proofs.Names.LabelNumbers.{one_number_holds}
use Rattle.mm_frame.proofs.Names.NameNumbers.{get_unmapped}
use Rattle.mm_step.specs.Substitution.{Symbol, Expression}
use Rattle.mm_step.specs.Moves.{name}
use Rattle.mm_step.specs.Steps.{IsNumberedMove}
use Rattle.mm_step.specs.Proof.{MeetsHypotheses}
use Rattle.mm_step.specs.Mirror.CodeVerify.{name_at, pairs_in}
use Rattle.mm_step.proofs.ProofSteps.OneStep.{one_label}
use Rattle.mm_step.proofs.ByNumbers.StepByAssertion.{label_of}
use Rattle.mm_step.proofs.ByNumbers.NumberedSymbols.{name_is}
use Rattle.mm_rules.specs.Explained.{AreMandatoryPairs}
use Rattle.mm_rules.specs.Mirror.Explaining.{named_pairs}

-- ---- names

abbrev numbers_of : DistinctPair → ℕ × ℕ
numbers_of p = (p.variables.0.0, p.variables.1.0)

-- a pair by numbers is there by names
named_there : (st : List Sentence) (ps : List DistinctPair) (q : ℕ × ℕ) → Contains (pairs_in ps) q
    → Contains (named_pairs st ps) (name_at st q.0, name_at st q.1)
named_there st ps q there =
    let at = at_from_contains (pairs_in ps) q there in
    let p = get_unmapped numbers_of ps at.0 q at.1 in
    let named : slice_get (named_pairs st ps) at.0 ≡ Some (name_at st q.0, name_at st q.1) =
    slice_get-map (λ (r : DistinctPair). (name_at st r.variables.0.0, name_at st r.variables.1.0)) ps at.0
    ∙ ap (option_map (λ (r : DistinctPair). (name_at st r.variables.0.0, name_at st r.variables.1.0))) p.1
    ∙ ap (λ (r : ℕ × ℕ). Some (name_at st r.0, name_at st r.1)) p.2 in
    contains_from_at (named_pairs st ps) (name_at st q.0, name_at st q.1) (at.0, named)

-- a pair by names has numbers
numbers_there : (ps : List DistinctPair) (i : ℕ) (p : DistinctPair) → slice_get ps i ≡ Some p
    → slice_get (pairs_in ps) i ≡ Some (numbers_of p)
numbers_there ps i p there = slice_get-map numbers_of ps i ∙ ap (option_map numbers_of) there

module _ (st : List Sentence) (at : ℕ) (ps : List DistinctPair)
    (are : ArePairs (record { statements = st; index = at }) (pairs_in ps)) where
  pub numbered_at : (i : ℕ) (p : DistinctPair) → slice_get ps i ≡ Some p
      → IsNumberOf st (name_at st p.variables.0.0) p.variables.0.0
      × IsNumberOf st (name_at st p.variables.1.0) p.variables.1.0
      × IsMandatoryPair (take at st) are.assertion (name_at st p.variables.0.0) (name_at st p.variables.1.0)
  numbered_at i p there =
      let found = are.only (numbers_of p) (contains_from_at (pairs_in ps) (numbers_of p) (i, numbers_there ps i p there)) in
      let x_is : name_at st p.variables.0.0 ≡ found.0 = name_is st p.variables.0.0 found.0 found.2 in
      let y_is : name_at st p.variables.1.0 ≡ found.1 = name_is st p.variables.1.0 found.1 found.3 in (
        subst (λ (z : Symbol). IsNumberOf st z p.variables.0.0) (sym x_is) found.2,
        subst (λ (z : Symbol). IsNumberOf st z p.variables.1.0) (sym y_is) found.3,
        subst (λ (z : Symbol). IsMandatoryPair (take at st) are.assertion z (name_at st p.variables.1.0)) (sym x_is)
            (subst (λ (z : Symbol). IsMandatoryPair (take at st) are.assertion found.0 z) (sym y_is) found.4),
      )

  pub same_number : (n m : ℕ) → IsNumberOf st (name_at st n) n → IsNumberOf st (name_at st m) m
      → name_at st n ≡ name_at st m → n ≡ m
  same_number n m at_n at_m same =
      (one_number_holds st [] (name_at st m)).1 n m (subst (λ (z : Symbol). IsNumberOf st z n) same at_n) at_m

  pub pairs_mandatory : AreMandatoryPairs (take at st) are.assertion (named_pairs st ps)
  pairs_mandatory = record {
    only = λ p there.
        let i = at_from_contains (named_pairs st ps) p there in
        let found = get_unmapped (λ (r : DistinctPair). (name_at st r.variables.0.0, name_at st r.variables.1.0)) ps i.0 p i.1 in
        subst (λ (q : Symbol × Symbol). IsMandatoryPair (take at st) are.assertion q.0 q.1) found.2 (numbered_at i.0 found.0 found.1).2;
    each = λ x y pair.
        let found = are.each x y pair in
        let x_is : name_at st found.0.0 ≡ x = name_is st found.0.0 x found.1 in
        let y_is : name_at st found.0.1 ≡ y = name_is st found.0.1 y found.2 in
        elim found.3 [
          | inl h ↦ inl (subst (λ (z : Symbol). Contains (named_pairs st ps) (z, y)) x_is
              (subst (λ (z : Symbol). Contains (named_pairs st ps) (name_at st found.0.0, z)) y_is (named_there st ps found.0 h)))
          | inr h ↦ inr (subst (λ (z : Symbol). Contains (named_pairs st ps) (y, z)) x_is
              (subst (λ (z : Symbol). Contains (named_pairs st ps) (z, name_at st found.0.0)) y_is (named_there st ps (found.0.1, found.0.0) h)))
        ];
    once = λ i j p q at_i at_j same.
        let a = get_unmapped (λ (r : DistinctPair). (name_at st r.variables.0.0, name_at st r.variables.1.0)) ps i p at_i in
        let b = get_unmapped (λ (r : DistinctPair). (name_at st r.variables.0.0, name_at st r.variables.1.0)) ps j q at_j in
        let na = numbered_at i a.0 a.1 in
        let nb = numbered_at j b.0 b.1 in
        let a_0 : name_at st a.0.variables.0.0 ≡ p.0 = ap (λ (r : Symbol × Symbol). r.0) a.2 in
        let a_1 : name_at st a.0.variables.1.0 ≡ p.1 = ap (λ (r : Symbol × Symbol). r.1) a.2 in
        let b_0 : name_at st b.0.variables.0.0 ≡ q.0 = ap (λ (r : Symbol × Symbol). r.0) b.2 in
        let b_1 : name_at st b.0.variables.1.0 ≡ q.1 = ap (λ (r : Symbol × Symbol). r.1) b.2 in
        are.once i j (numbers_of a.0) (numbers_of b.0) (numbers_there ps i a.0 a.1) (numbers_there ps j b.0 b.1)
        (elim same [
          | inl h ↦
              let first = same_number a.0.variables.0.0 b.0.variables.0.0 na.0 nb.0 (a_0 ∙ ap (λ (r : Symbol × Symbol). r.0) h ∙ sym b_0) in
              let second = same_number a.0.variables.1.0 b.0.variables.1.0 na.1 nb.1 (a_1 ∙ ap (λ (r : Symbol × Symbol). r.1) h ∙ sym b_1) in
              inl (cc (first, second))
          | inr h ↦
              let first = same_number a.0.variables.0.0 b.0.variables.1.0 na.0 nb.1 (a_0 ∙ ap (λ (r : Symbol × Symbol). r.0) h ∙ sym b_1) in
              let second = same_number a.0.variables.1.0 b.0.variables.0.0 na.1 nb.0 (a_1 ∙ ap (λ (r : Symbol × Symbol). r.1) h ∙ sym b_0) in
              inr (cc (first, second))
        ]);
  }

  -- they are those of the assertion that the step is by
  pub pairs_met : (index : ℕ) → AllMeant st → (id : ℕ) (a : Sentence) → IsNumbered st id at a → (label : List ℕ)
      → IsNumberedMove st (name id) (name label) → (stack : List Expression)
      → (m : MeetsHypotheses (take index st) stack label)
      → AreMandatoryPairs (take m.index (take index st)) m.assertion (named_pairs st ps)
  pairs_met index all id a numbered label move stack m =
      let found = get_from_take st index m.index m.assertion m.names.there in
      let same : at ≡ m.index = one_label st at m.index a m.assertion label all numbered.there found.1
      (label_of st id at a label numbered move) m.names.named in
      let assertion : are.assertion ≡ m.assertion = same_Some are.assertion m.assertion
      (sym are.there ∙ ap (slice_get st) same ∙ found.1) in
      let prefix : take at st ≡ take m.index (take index st) =
      ap (λ (n : ℕ). take n st) same ∙ sym (take-take m.index index st (let less : m.index < index = found.0 in omega arith)) in
      subst (λ (l : List Sentence). AreMandatoryPairs l m.assertion (named_pairs st ps)) prefix
      (subst (λ (s : Sentence). AreMandatoryPairs (take at st) s (named_pairs st ps)) assertion pairs_mandatory)
