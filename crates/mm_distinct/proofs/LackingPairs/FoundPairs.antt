-- The lists of missing pairs, by numbers, as those of more symbols and of more pairs of a step are
-- put behind.
use Rattle.std.proofs.Common.{◌≡◌, ℕ, zero, suc, ◌+◌, ◌<◌, List, [], ◌∷◌, length, take, get_or}
use Rattle.std.proofs.Common.{slice_get, Contains, Option, Some, inl, inr, ⊎_elim, refl, sym}
use Rattle.std.proofs.Common.{ap}
use Rattle.std.proofs.Common.{subst, ◌∙◌, arith}
use Rattle.std.specs.List.{AllZip}
use Rattle.std.proofs.lemmas.Bool.{cases_lt}
use Rattle.std.proofs.lemmas.Option.{same_Some, none-some}
use Rattle.mm_base.proofs.Lists.{get_take, get_from_take}
use Rattle.mm_frame.specs.Sentence.{Sentence}
use Rattle.mm_step.specs.Mirror.CodeVerify.{SomePairValues, value_of}
use Rattle.mm_step.specs.Mirror.CodeVariables.{HasItsVariables}
use Rattle.mm_step.specs.Mirror.CodeAsked.{IsMissingPair, HasEither, AddsMissing}
use Rattle.mm_distinct.specs.Mirror.CodeLacking.{AddsBetween, AddsLacking}
use Rattle.mm_step.proofs.ByNumbers.VariablesOfLists.{taken_more, more_taken, last_taken}
use Rattle.mm_distinct.proofs.AskedByNumbers.ListedVariables.{more_either}
use Rattle.mm_step.proofs.ByNumbers.EntryVariables.{listed_value, value_listed}

-- one symbol more of the first expression
pub between_more : (st : List Sentence) (index : ℕ) (e f : List ℕ) (old before new : List (ℕ × ℕ))
    (i : ℕ) → i < length e
    → AddsMissing st index (get_or e i 0) f before new
    → AddsBetween st index (take i e) f old before → AddsBetween st index (take (i + 1) e) f old new
between_more st index e f old before new i less adds was = record {
  kept = λ p c. adds.kept p (was.kept p c);
  only = λ p c. elim (adds.only p c) [
    | inl b ↦ ⊎_elim inl (λ h. inr (h.0, more_taken e i less p.0 h.1, h.2)) (was.only p b)
    | inr h ↦ inr (h.1, subst (Contains (take (i + 1) e)) (sym h.0) (last_taken e i less), h.2)
  ];
  each = λ m n p c d. elim (taken_more e i less m c) [
    | inl b ↦ more_either before new (m, n) adds.kept (was.each m n p b d)
    | inr same ↦
        subst (λ k. HasEither new (k, n)) same
        (adds.each n (subst (λ k. IsMissingPair st index k n) (sym same) p) d)
  ];
}

only_pair : (p q : ℕ × ℕ) (k : ℕ) → slice_get (p ∷ []) k ≡ Some q → p ≡ q
only_pair p q zero there = same_Some p q there
only_pair p q (suc k) there = absurd (none-some q there)

module _ (st : List Sentence) (index : ℕ) (σ : ℕ → Option (List ℕ)) where
  -- those of one pair
  pub found_of_pair : (x y : ℕ) (e f : List ℕ) (old new : List (ℕ × ℕ)) → σ x ≡ Some e
      → σ y ≡ Some f
      → AddsBetween st index e f old new → AddsLacking st index σ ((x, y) ∷ []) old new
  found_of_pair x y e f old new at_x at_y adds = record {
    kept = adds.kept;
    only = λ p c. ⊎_elim inl (λ h. inr (h.0, (0, (x, y), refl, (e, f, at_x, at_y, (h.1, h.2)))))
        (adds.only p c);
    each = λ k p there a b at_a at_b m n missing in_a in_b.
        let same = only_pair (x, y) p k there in
        let first : a ≡ e = same_Some a e (sym at_a ∙ ap (λ (q : ℕ × ℕ). σ q.0) (sym same)
        ∙ at_x) in
        let second : b ≡ f = same_Some b f (sym at_b ∙ ap (λ (q : ℕ × ℕ). σ q.1) (sym same)
        ∙ at_y) in
        adds.each m n missing (subst (λ l. Contains l m) first in_a)
        (subst (λ l. Contains l n) second in_b);
  }

  -- one pair more
  pub found_more : (pairs : List (ℕ × ℕ)) (i : ℕ) (p : ℕ × ℕ) (old before new : List (ℕ × ℕ))
      → slice_get pairs i ≡ Some p → AddsLacking st index σ (p ∷ []) before new
      → AddsLacking st index σ (take i pairs) old before → AddsLacking st index σ
      (take (i + 1) pairs) old new
  found_more pairs i p old before new there adds was = record {
    kept = λ q c. adds.kept q (was.kept q c);
    only = λ q c. elim (adds.only q c) [
      | inl b ↦ ⊎_elim inl (λ h. inr (h.0, longer _ h.1)) (was.only q b)
      | inr h ↦ inr (h.0, last _ h.1)
    ];
    each = λ k q at a b at_a at_b m n missing in_a in_b.
        let (less, here) = get_from_take pairs (i + 1) k q at in
        elim (cases_lt k i) [
          | inl earlier ↦ more_either before new (m, n) adds.kept
              (was.each k q (get_take pairs i k earlier ∙ here) a b at_a at_b m n missing in_a in_b)
          | inr later ↦
              let e : k ≡ i = omega arith in
              let same : p ≡ q = same_Some p q (sym there ∙ ap (slice_get pairs) (sym e) ∙ here) in
              adds.each 0 q (ap Some same) a b at_a at_b m n missing in_a in_b
        ];
  }
    where
      longer : (P : List ℕ → List ℕ → Type 0) → SomePairValues σ (take i pairs) P
          → SomePairValues σ (take (i + 1) pairs) P
      longer P (k, q, at, some) =
          let (less, here) = get_from_take pairs i k q at in
          (k, q, get_take pairs (i + 1) k (omega arith) ∙ here, some)

      last : (P : List ℕ → List ℕ → Type 0) → SomePairValues σ (p ∷ []) P
          → SomePairValues σ (take (i + 1) pairs) P
      last P (k, q, at, some) =
          let same : p ≡ q = only_pair p q k at in
          (i, q, get_take pairs (i + 1) i (omega arith) ∙ there ∙ ap Some same, some)

-- those of the variables of each entry are those of the entries
pub found_of_rows : (st : List Sentence) (index : ℕ) (vs : List (Option ℕ))
    (es rows : List (List ℕ)) (pairs old new : List (ℕ × ℕ))
    → AllZip (HasItsVariables st) es rows
    → AddsLacking st index (value_of vs rows) pairs old new
    → AddsLacking st index (value_of vs es) pairs old new
found_of_rows st index vs es rows pairs old new zip adds = record {
  kept = adds.kept;
  only = λ p c. ⊎_elim inl (λ h. inr (h.0, listed p h.1)) (adds.only p c);
  each = λ k p at e f at_e at_f m n missing in_e in_f.
      let a = listed_value st vs es rows p.0 e zip at_e in
      let b = listed_value st vs es rows p.1 f zip at_f in
      adds.each k p at a.0 b.0 a.1 b.1 m n missing ((a.2 m).1 (missing.first, in_e))
      ((b.2 n).1 (missing.second, in_f));
}
  where
    listed : (q : ℕ × ℕ)
        → SomePairValues (value_of vs rows) pairs (λ a b. Contains a q.0 × Contains b q.1)
        → SomePairValues (value_of vs es) pairs (λ e f. Contains e q.0 × Contains f q.1)
    listed q (k, p, at, (a, b, at_a, at_b, both)) =
        let e = value_listed st vs es rows p.0 a zip at_a in
        let f = value_listed st vs es rows p.1 b zip at_b in
        (k, p, at, (e.0, f.0, e.1, f.1, (((e.2 q.0).0 both.0).1, ((f.2 q.1).0 both.1).1)))
