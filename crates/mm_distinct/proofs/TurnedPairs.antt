-- Mandatory pairs that were turned and sorted: what they were, and that they stand in order.
use Rattle.std.proofs.Common.{◌≡◌, ℕ, ◌<◌, ◌≤◌, List, map, get_or, slice_get, Contains}
use Rattle.std.proofs.Common.{Some, option_map, Bool, true, false, cond, ltb, ◌⊎◌, inl, inr}
use Rattle.std.proofs.Common.{⊎_elim, refl, sym, ap, subst, ◌∙◌, arith}
use Rattle.std.specs.Ordering.{nat_cmp, is_lt, ordering_then}
use Rattle.std.specs.List.Sorted.{IsPermutation, IsSortedByKeyClosure}
use Rattle.std.specs.Fn.{ComputesKey}
use Rattle.std.proofs.lemmas.Bool.Decides.{nat_tests}
use Rattle.std.proofs.lemmas.Option.{slice_get_within, get_or_from_slice_get, slice_get-map}
use Rattle.std.proofs.lemmas.List.Sorted.{IsPermutation-map, IsPermutation-sym}
use Rattle.std.proofs.lemmas.List.Sorted.{Contains-permutation, ranks_by, sorted_far}
use Rattle.mm_base.proofs.Lists.{at_from_contains}
use Rattle.mm_frame.specs.FrameIndex.{IsSamePair}
use Rattle.mm_frame.specs.declared.distinct.DistinctPair.{DistinctPair}
use Rattle.mm_frame.specs.declared.number.Sym.{Sym}
use Rattle.mm_step.proofs.ByNumbers.VariablesOfLists.{mapped_at, mapped_contains, contains_mapped}
use Rattle.mm_distinct.specs.InOrder.{numbers_of, flipped, turned, AreDifferent, AreInOrder}
use Rattle.mm_distinct.proofs.AskedByNumbers.OrderedVariables.{StandsOnce, once_permuted, by_numbers}
use Rattle.mm_distinct.proofs.AskedByNumbers.OrderedVariables.{by_numbers_total, not_same}
use denote.Param.Members.{Mut}
use denote.Ref.{Bor}

-- ---- turned

either_of : {X : Type 0} (b : Bool) (x y : X) → (cond b x y ≡ y) ⊎ (cond b x y ≡ x)
either_of true x y = inr refl
either_of false x y = inl refl

-- it is the pair in one order or in the other
turned_is : (p : DistinctPair) → (turned p ≡ p) ⊎ (turned p ≡ flipped p)
turned_is p = either_of (ltb p.variables.1.0 p.variables.0.0) (flipped p) p

lower_by : (b : Bool) (p : DistinctPair) → (b ≡ true → p.variables.1.0 < p.variables.0.0)
    → (b ≡ false → p.variables.0.0 ≤ p.variables.1.0)
    → (cond b (flipped p) p).variables.0.0 ≤ (cond b (flipped p) p).variables.1.0
lower_by true p less over = let h = less refl in omega arith
lower_by false p less over = over refl

is_less : (m n : ℕ) → ltb m n ≡ true → m < n
is_less m n e = grind (arith, nat_tests)

is_over : (m n : ℕ) → ltb m n ≡ false → n ≤ m
is_over m n e = grind (arith, nat_tests)

-- the lower number stands first
lower_first : (p : DistinctPair) → (turned p).variables.0.0 ≤ (turned p).variables.1.0
lower_first p =
    lower_by (ltb p.variables.1.0 p.variables.0.0) p (is_less p.variables.1.0 p.variables.0.0)
    (is_over p.variables.1.0 p.variables.0.0)

abbrev flip : ℕ × ℕ → ℕ × ℕ
flip p = (p.1, p.0)

-- pairs that are the same when turned are so before
same_turned : (p q : DistinctPair) → numbers_of (turned p) ≡ numbers_of (turned q)
    → IsSamePair (numbers_of p) (numbers_of q)
same_turned p q same =
    ⊎_elim
    (λ a. ⊎_elim
    (λ b. inl (sym (ap numbers_of a) ∙ same ∙ ap numbers_of b))
    (λ b. inr (sym (ap numbers_of a) ∙ same ∙ ap numbers_of b)) (turned_is q))
    (λ a. ⊎_elim
    (λ b. inr (ap flip (sym (ap numbers_of a) ∙ same ∙ ap numbers_of b)))
    (λ b. inl (ap flip (sym (ap numbers_of a) ∙ same ∙ ap numbers_of b))) (turned_is q))
    (turned_is p)

-- ---- and sorted

abbrev pub variables_of_pair : DistinctPair → Sym × Sym
variables_of_pair p = p.variables

not_over : (a b c d : ℕ) → is_lt (ordering_then (nat_cmp c a) (nat_cmp d b)) ≡ false
    → (a < c) ⊎ ((a ≡ c) × (b ≤ d))
not_over a b c d e = grind (arith, nat_tests)

numbers_at : (ps : List DistinctPair) (i : ℕ) (p : DistinctPair) → slice_get ps i ≡ Some p
    → slice_get (map numbers_of ps) i ≡ Some (numbers_of p)
numbers_at ps i p at = slice_get-map numbers_of ps i ∙ ap (option_map numbers_of) at

turned_once : (pairs : List DistinctPair) → AreDifferent pairs
    → StandsOnce (map numbers_of (map turned pairs))
turned_once pairs different i j n at_i at_j =
    let x = mapped_at numbers_of (map turned pairs) i n at_i in
    let y = mapped_at numbers_of (map turned pairs) j n at_j in
    let p = mapped_at turned pairs i x.0 x.1 in
    let q = mapped_at turned pairs j y.0 y.1 in
    let same : numbers_of (turned p.0) ≡ numbers_of (turned q.0) =
    ap numbers_of p.2 ∙ x.2 ∙ sym (ap numbers_of q.2 ∙ y.2) in
    different i j (numbers_of p.0) (numbers_of q.0) (numbers_at pairs i p.0 p.1)
    (numbers_at pairs j q.0 q.1) (same_turned p.0 q.0 same)

pub put_in_order : {F : Type 0} {g : Mut F (Bor DistinctPair × Unit {0}) (Sym × Sym)} {f : F}
    (pairs ys : List DistinctPair) → AreDifferent pairs → IsPermutation (map turned pairs) ys
    → IsSortedByKeyClosure g by_numbers f ys → ComputesKey g variables_of_pair f
    → AreInOrder pairs ys
put_in_order pairs ys different moved sorted keys = record {
  same = moved;
  in_order = λ i j x y less at_i at_j.
      let apart : numbers_of x ≡ numbers_of y → ⊥ = λ same.
      absurd (let e : i ≡ j = once i j (numbers_of x) (numbers_at ys i x at_i)
      (numbers_at ys j y at_j ∙ ap Some (sym same)) in omega (arith, e, less)) in
      let far = sorted_far _ (ranks_by by_numbers_total variables_of_pair) ys
      (sorted variables_of_pair keys) i j x (omega (arith, less)) (slice_get_within ys j y at_j) in
      let here : get_or ys i x ≡ x = get_or_from_slice_get ys i x x at_i in
      let there : get_or ys j x ≡ y = get_or_from_slice_get ys j y x at_j in
      ⊎_elim inl
      (λ h. inr (
        h.0,
        not_same x.variables.1.0 y.variables.1.0
            (λ e. apart (cc (h.0, e))) h.1,
      ))
      (not_over x.variables.0.0 x.variables.1.0 y.variables.0.0 y.variables.1.0
      (rw (here, there) at far));
}
  where
    once : StandsOnce (map numbers_of ys)
    once = once_permuted (map numbers_of (map turned pairs)) (map numbers_of ys)
        (IsPermutation-map numbers_of (map turned pairs) ys moved) (turned_once pairs different)

-- ---- what they were

module _ (pairs ordered : List DistinctPair) (are : AreInOrder pairs ordered) where
  -- what holds of each pair, in one order and in the other, holds of each that was put in order
  pub holds_ordered : (P : DistinctPair → Type 0)
      → ((i : ℕ) (p : DistinctPair) → slice_get pairs i ≡ Some p → P p × P (flipped p))
      → (q : DistinctPair) → Contains ordered q → P q
  holds_ordered P each q c =
      let p = mapped_contains turned pairs q (Contains-permutation ordered (map turned pairs) q
      (IsPermutation-sym (map turned pairs) ordered are.same) c) in
      let at = at_from_contains pairs p.0 p.1 in
      let both = each at.0 p.0 at.1 in
      subst P p.2
      (⊎_elim (λ e. subst P (sym e) both.0) (λ e. subst P (sym e) both.1) (turned_is p.0))

  -- each pair is there, in one order or in the other
  pub is_ordered : (p : DistinctPair) → Contains pairs p
      → Contains ordered p ⊎ Contains ordered (flipped p)
  is_ordered p c =
      let there = Contains-permutation (map turned pairs) ordered (turned p) are.same
      (contains_mapped turned pairs p c) in
      ⊎_elim (λ e. inl (subst (Contains ordered) e there))
      (λ e. inr (subst (Contains ordered) e there)) (turned_is p)

  -- with the lower number first
  pub lower_ordered : (q : DistinctPair) → Contains ordered q → q.variables.0.0 ≤ q.variables.1.0
  lower_ordered q c =
      let p = mapped_contains turned pairs q (Contains-permutation ordered (map turned pairs) q
      (IsPermutation-sym (map turned pairs) ordered are.same) c) in
      subst (λ (r : DistinctPair). r.variables.0.0 ≤ r.variables.1.0) p.2 (lower_first p.0)
