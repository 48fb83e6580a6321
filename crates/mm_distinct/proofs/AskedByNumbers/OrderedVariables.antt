-- The shared variables and the missing pairs in the order of their declarations, by numbers and by
-- names.
use Rattle.std.proofs.Common.{◌≡◌, ℕ, zero, suc, ◌<◌, ◌≤◌, List, [], ◌∷◌, length, get_or}
use Rattle.std.proofs.Common.{slice_get, Contains, Bool, true, false, eqb, ◌&&◌}
use Rattle.std.proofs.Common.{option_map, Some, ◌↔◌, ◌⊎◌, inl, inr, ⊎_elim, refl, sym}
use Rattle.std.proofs.Common.{ap, subst, ◌∙◌, arith}
use Rattle.std.specs.Ordering.{nat_cmp, is_lt, ordering_then, eq_by_cmp}
use Rattle.std.specs.declared.cmp.Ordering.{Ordering}
use Rattle.std.specs.declared.cmp.Ordering.TheVariants.{Less}
use Rattle.std.specs.List.{AllZip, swap, dedup}
use Rattle.std.specs.List.Sorted.{IsPermutation, IsSorted, IsStrictlySortedBy}
use Rattle.std.specs.List.Retain.{IsFiltered, DiffersFromLast}
use Rattle.std.proofs.lemmas.Bool.{cases_eq, cases_lt, eqb-true, and_parts}
use Rattle.std.proofs.lemmas.Bool.Decides.{nat_tests}
use Rattle.std.specs.Cmp.{IsTotalOrder, IsEquivalence}
use Rattle.std.proofs.lemmas.Cmp.{nat_cmp_total, on_total, then_total}
use Rattle.std.proofs.lemmas.Cmp.{nat_eq_equiv, on_equiv, and_equiv}
use Rattle.std.proofs.lemmas.Option.{slice_get_within, slice_get-get_or, slice_get-map}
use Rattle.std.proofs.lemmas.Option.{get_or_from_slice_get, none-some, same_Some}
use Rattle.std.proofs.lemmas.List.Edits.{length-swap, swapped_from_swap}
use Rattle.std.proofs.lemmas.List.Filters.{dedup_is}
use Rattle.std.proofs.lemmas.List.Kept.{Contains-dedup, Contains-from_dedup}
use Rattle.std.proofs.lemmas.List.Kept.{IsStrictlySortedBy-dedup}
use Rattle.std.proofs.lemmas.List.Sorted.{IsPermutation-keeps, IsPermutation-map, sorted_far}
use Rattle.std.proofs.lemmas.List.Sorted.{ranks_by, Contains-permutation, IsPermutation-sym}
use Rattle.mm_base.proofs.Lists.{contains_from_at, at_from_contains, zip_left, zip_right, all_at}
use Rattle.mm_frame.specs.declared.number.Sym.{Sym}
use Rattle.mm_step.specs.Stores.{numbers_in}
use Rattle.mm_step.specs.Mirror.CodeRun.{DoRise}
use Rattle.mm_step.specs.Mirror.CodeAsked.{number_pairs, HasEither, AreSamePairs, IsEachHigher}
use Rattle.mm_step.specs.Mirror.CodeAsked.{IsTurned, ArePutInOrder}
use Rattle.mm_step.proofs.ByNumbers.VariablesOfLists.{mapped_at, mapped_contains, contains_mapped}
use Rattle.mm_distinct.proofs.AskedByNumbers.ListedVariables.{numbers_of}
use Rattle.mm_step.proofs.ByNumbers.RisingVariables.{by_number}

-- ==== what stands once

-- each element stands at one place
abbrev pub StandsOnce : {X : Type 0} → List X → Type 0
StandsOnce {X} xs =
    (i j : ℕ) (x : X) → slice_get xs i ≡ Some x → slice_get xs j ≡ Some x → i ≡ j

module _ {X : Type 0} where
  -- where the element at a place was before those at two others were exchanged
  abbrev CameFrom : (l : List X) (a b : ℕ) (k m : ℕ) → Type 0
  CameFrom l a b k m =
      ((k ≡ a) × (m ≡ b)) ⊎ ((k ≡ b) × (m ≡ a)) ⊎ ((k ≡ a → ⊥) × (k ≡ b → ⊥) × (m ≡ k))

  came_from : (l : List X) (a b k : ℕ) (d : X) → a < length l → b < length l → k < length l
      → (m : ℕ) × (m < length l) × (get_or (swap l a b) k d ≡ get_or l m d)
      × CameFrom l a b k m
  came_from l a b k d p q r =
      let s = swapped_from_swap l (swap l a b) a b d p q refl in
      elim (cases_eq k a) [
        | inl e ↦ (b, q, ap (λ n. get_or (swap l a b) n d) e ∙ s.0, inl (e, refl))
        | inr not_a ↦ elim (cases_eq k b) [
          | inl e ↦ (a, p, ap (λ n. get_or (swap l a b) n d) e ∙ s.1, inr (inl (e, refl)))
          | inr not_b ↦ (k, r, s.2 k not_a not_b, inr (inr (not_a, not_b, refl)))
        ]
      ]

  same_place : (l : List X) (a b i j m : ℕ) → CameFrom l a b i m → CameFrom l a b j m → i ≡ j
  same_place l a b i j m (inl p) (inl q) = p.0 ∙ sym q.0
  same_place l a b i j m (inl p) (inr (inl q)) = p.0 ∙ sym q.1 ∙ p.1 ∙ sym q.0
  same_place l a b i j m (inl p) (inr (inr q)) = absurd (q.1 (sym q.2 ∙ p.1))
  same_place l a b i j m (inr (inl p)) (inl q) = p.0 ∙ sym q.1 ∙ p.1 ∙ sym q.0
  same_place l a b i j m (inr (inl p)) (inr (inl q)) = p.0 ∙ sym q.0
  same_place l a b i j m (inr (inl p)) (inr (inr q)) = absurd (q.0 (sym q.2 ∙ p.1))
  same_place l a b i j m (inr (inr p)) (inl q) = absurd (p.1 (sym p.2 ∙ q.1))
  same_place l a b i j m (inr (inr p)) (inr (inl q)) = absurd (p.0 (sym p.2 ∙ q.1))
  same_place l a b i j m (inr (inr p)) (inr (inr q)) = sym p.2 ∙ q.2

  once_swapped : (l : List X) (a b : ℕ) → a < length l → b < length l → StandsOnce l
      → StandsOnce (swap l a b)
  once_swapped l a b p q once i j x at_i at_j =
      let w = swap l a b in
      let long = length-swap l a b in
      let u = came_from l a b i x p q (omega (arith, long, slice_get_within w i x at_i)) in
      let v = came_from l a b j x p q (omega (arith, long, slice_get_within w j x at_j)) in
      let at_u = slice_get-get_or l u.0 x u.1
      ∙ ap Some (sym u.2 ∙ get_or_from_slice_get w i x x at_i) in
      let at_v = slice_get-get_or l v.0 x v.1
      ∙ ap Some (sym v.2 ∙ get_or_from_slice_get w j x x at_j) in
      same_place l a b i j u.0 u.3
      (subst (CameFrom l a b j) (once v.0 u.0 x at_v at_u) v.3)

  -- it does in another order
  pub once_permuted : (xs ys : List X) → IsPermutation xs ys → StandsOnce xs → StandsOnce ys
  once_permuted xs ys moved once = IsPermutation-keeps xs StandsOnce once once_swapped ys moved

-- ==== numbers in order

pub not_same : (a b : ℕ) → (a ≡ b → ⊥) → a ≤ b → a < b
not_same a b apart most = elim (cases_lt a b) [
  | inl less ↦ less
  | inr over ↦ absurd (apart (omega arith))
]

at_most : (a b : ℕ) → is_lt (nat_cmp b a) ≡ false → a ≤ b
at_most a b e = grind (arith, nat_tests)

-- symbols that were sorted
pub symbols_rise : (xs ys : List Sym) → StandsOnce (numbers_in xs) → IsPermutation xs ys
    → IsSorted by_number ys → DoRise (numbers_in ys)
symbols_rise xs ys once moved sorted i j a b less at_i at_j =
    let apart : a ≡ b → ⊥ = λ same. absurd (let e : i ≡ j = once_permuted (numbers_in xs)
    (numbers_in ys) (IsPermutation-map (λ (s : Sym). s.0) xs ys moved) once i j a at_i
    (at_j ∙ ap Some (sym same)) in omega (arith, e, less)) in
    let x = mapped_at (λ (s : Sym). s.0) ys i a at_i in
    let y = mapped_at (λ (s : Sym). s.0) ys j b at_j in
    let far = sorted_far _ (ranks_by (on_total (λ (s : Sym). s.0) nat_cmp_total) (λ s. s)) ys sorted
    i j x.0 (omega (arith, less)) (slice_get_within ys j y.0 y.1) in
    let read_x = get_or_from_slice_get ys i x.0 x.0 x.1 in
    let read_y = get_or_from_slice_get ys j y.0 x.0 y.1 in
    let most : x.0.0 ≤ y.0.0 = at_most x.0.0 y.0.0 (rw (read_x, read_y) at far) in
    not_same a b apart (omega (arith, most, x.2, y.2))

-- and these are the same
pub same_sorted : (xs ys : List Sym) → IsPermutation xs ys → (n : ℕ)
    → Contains (numbers_in ys) n ↔ Contains (numbers_in xs) n
same_sorted xs ys moved n =
    let permuted = IsPermutation-map (λ (s : Sym). s.0) xs ys moved in (
      Contains-permutation (numbers_in ys) (numbers_in xs) n
          (IsPermutation-sym (numbers_in xs) (numbers_in ys) permuted),
      Contains-permutation (numbers_in xs) (numbers_in ys) n permuted,
    )

-- ==== pairs in order

-- ---- turned

-- the pair in the other order
abbrev flip : ℕ × ℕ → ℕ × ℕ
flip p = (p.1, p.0)

other_order : (pairs : List (ℕ × ℕ)) (p : ℕ × ℕ) → HasEither pairs p → HasEither pairs (flip p)
other_order pairs p (inl c) = inr c
other_order pairs p (inr c) = inl c

abbrev IsEither : ℕ × ℕ → ℕ × ℕ → Type 0
IsEither q p = (q ≡ p) ⊎ (q ≡ flip p)

either_has : (pairs : List (ℕ × ℕ)) (q p : ℕ × ℕ) → IsEither q p → Contains pairs p
    → HasEither pairs q
either_has pairs q p (inl is) c = inl (subst (Contains pairs) (sym is) c)
either_has pairs q p (inr is) c = inr (subst (Contains pairs) (ap flip (sym is)) c)

turned_either : (x y : Sym × Sym) → IsTurned x y → IsEither (numbers_of y) (numbers_of x)
turned_either x y (inl (less, is)) = inr (ap numbers_of is)
turned_either x y (inr (most, is)) = inl (ap numbers_of is)

lower_first : (x y : Sym × Sym) → IsTurned x y → (x.0.0 ≡ x.1.0 → ⊥) → y.0.0 < y.1.0
lower_first x y (inl (less, is)) differ =
    subst (λ (z : Sym × Sym). z.0.0 < z.1.0) (sym is) less
lower_first x y (inr (most, is)) differ =
    subst (λ (z : Sym × Sym). z.0.0 < z.1.0) (sym is) (not_same x.0.0 x.1.0 differ most)

-- ---- sorted

-- the order of pairs, by the numbers of their symbols
abbrev pub by_numbers : Sym × Sym → Sym × Sym → Ordering
by_numbers p q = ordering_then (nat_cmp p.0.0 q.0.0) (nat_cmp p.1.0 q.1.0)

before : (a b c d : ℕ) → ordering_then (nat_cmp a c) (nat_cmp b d) ≡ Less
    → (a < c) ⊎ ((a ≡ c) × (b < d))
before a b c d e = grind (arith, nat_tests)

pairs_rise : (zs : List (Sym × Sym)) → IsStrictlySortedBy by_numbers zs
    → IsEachHigher (number_pairs zs)
unfolding IsStrictlySortedBy
pairs_rise [] h i j p q less at_i at_j = absurd (none-some p at_i)
pairs_rise (z ∷ zs) h i zero p q less at_i at_j = absurd (omega (arith, less))
pairs_rise (z ∷ zs) h zero (suc j) p q less at_i at_j =
    let y = mapped_at numbers_of zs j q at_j in
    let below = all_at (λ x. by_numbers z x ≡ Less) zs j y.0 h.0 y.1 in
    subst (λ (r : ℕ × ℕ). (r.0 < q.0) ⊎ ((r.0 ≡ q.0) × (r.1 < q.1)))
    (same_Some (numbers_of z) p at_i)
    (subst (λ (r : ℕ × ℕ). (z.0.0 < r.0) ⊎ ((z.0.0 ≡ r.0) × (z.1.0 < r.1))) y.2
    (before z.0.0 z.1.0 y.0.0.0 y.0.1.0 below))
pairs_rise (z ∷ zs) h (suc i) (suc j) p q less at_i at_j =
    pairs_rise zs h.1 i j p q (omega (arith, less)) at_i at_j

-- ---- sorted, each once

abbrev pub same_numbers : Sym × Sym → Sym × Sym → Bool
same_numbers p q = (eqb p.0.0 q.0.0) && (eqb p.1.0 q.1.0)

numbers_equiv : IsEquivalence same_numbers
numbers_equiv =
    and_equiv (on_equiv (λ (p : Sym × Sym). p.0.0) nat_eq_equiv)
    (on_equiv (λ (p : Sym × Sym). p.1.0) nat_eq_equiv)

same_pair : (p q : Sym × Sym) → same_numbers p q ≡ true → p ≡ q
same_pair p q e =
    let both = and_parts (eqb p.0.0 q.0.0) (eqb p.1.0 q.1.0) e in
    let first : p.0.0 ≡ q.0.0 = eqb-true p.0.0 q.0.0 both.0 in
    let second : p.1.0 ≡ q.1.0 = eqb-true p.1.0 q.1.0 both.1 in
    λ k. (record { 0 = first k }, record { 0 = second k })

pub by_numbers_total : IsTotalOrder by_numbers
by_numbers_total =
    then_total (on_total (λ (p : Sym × Sym). p.0.0) nat_cmp_total)
    (on_total (λ (p : Sym × Sym). p.1.0) nat_cmp_total)

ties : (p q : Sym × Sym) → same_numbers p q ≡ eq_by_cmp by_numbers p q
ties p q = grind (arith, nat_tests)

module _ (xs ys zs : List (Sym × Sym)) (moved : IsPermutation xs ys)
    (filtered : IsFiltered (DiffersFromLast same_numbers) [] ys zs) where
  pub once_same : AreSamePairs (number_pairs xs) (number_pairs zs)
  once_same p = (
    λ c.
        let x = mapped_contains numbers_of zs p c in
        subst (Contains (number_pairs xs)) x.2 (contains_mapped numbers_of xs x.0
        (Contains-permutation ys xs x.0 (IsPermutation-sym xs ys moved)
        (Contains-from_dedup same_numbers ys x.0 (subst (λ l. Contains l x.0) is x.1)))),
    λ c.
        let x = mapped_contains numbers_of xs p c in
        subst (Contains (number_pairs zs)) x.2 (contains_mapped numbers_of zs x.0
        (subst (λ l. Contains l x.0) (sym is)
        (Contains-dedup numbers_equiv same_pair ys x.0 (Contains-permutation xs ys x.0 moved x.1)))),
  )
    where
      is : zs ≡ dedup same_numbers ys
      is = dedup_is same_numbers ys zs filtered

  pub once_rising : IsSorted by_numbers ys → IsEachHigher (number_pairs zs)
  once_rising sorted =
      pairs_rise zs (subst (IsStrictlySortedBy by_numbers) (sym (dedup_is same_numbers ys zs filtered))
      (IsStrictlySortedBy-dedup by_numbers_total ties ys sorted))

-- ---- turned, and then sorted

module _ (xs ys : List (Sym × Sym)) (turned : AllZip IsTurned xs ys)
    (differ : (p : ℕ × ℕ) → Contains (number_pairs xs) p → p.0 ≡ p.1 → ⊥) where
  -- what a turned pair was
  turned_back : (i : ℕ) (q : ℕ × ℕ) → slice_get (number_pairs ys) i ≡ Some q
      → (p : ℕ × ℕ) × (slice_get (number_pairs xs) i ≡ Some p) × IsEither q p × (q.0 < q.1)
  turned_back i q at =
      let y = mapped_at numbers_of ys i q at in
      let x = zip_right IsTurned xs ys i y.0 turned y.1 in
      let there = slice_get-map numbers_of xs i ∙ ap (option_map numbers_of) x.1 in
      let own = differ (numbers_of x.0) (contains_from_at (number_pairs xs) (numbers_of x.0)
      (i, there)) in (
        numbers_of x.0,
        there,
        subst (λ r. IsEither r (numbers_of x.0)) y.2 (turned_either x.0 y.0 x.2),
        subst (λ (r : ℕ × ℕ). r.0 < r.1) y.2 (lower_first x.0 y.0 x.2 own),
      )

  was_there : (q : ℕ × ℕ) → Contains (number_pairs ys) q → HasEither (number_pairs xs) q
  was_there q c =
      let at = at_from_contains (number_pairs ys) q c in
      let p = turned_back at.0 q at.1 in
      either_has (number_pairs xs) q p.0 p.2 (contains_from_at (number_pairs xs) p.0 (at.0, p.1))

  is_there : (p : ℕ × ℕ) → Contains (number_pairs xs) p → HasEither (number_pairs ys) p
  is_there p c =
      let at = at_from_contains (number_pairs xs) p c in
      let x = mapped_at numbers_of xs at.0 p at.1 in
      let y = zip_left IsTurned xs ys at.0 x.0 turned x.1 in
      let there = slice_get-map numbers_of ys at.0 ∙ ap (option_map numbers_of) y.1 in
      let is = subst (λ r. IsEither (numbers_of y.0) r) x.2 (turned_either x.0 y.0 y.2) in
      either_has (number_pairs ys) p (numbers_of y.0) (either_back p (numbers_of y.0) is)
      (contains_from_at (number_pairs ys) (numbers_of y.0) (at.0, there))
    where
      either_back : (p q : ℕ × ℕ) → IsEither q p → IsEither p q
      either_back p q (inl is) = inl (sym is)
      either_back p q (inr is) = inr (ap flip (sym is))

  -- and then sorted
  pub put_in_order : (pairs : List (ℕ × ℕ)) → AreSamePairs (number_pairs ys) pairs
      → IsEachHigher pairs → ArePutInOrder (number_pairs xs) pairs
  put_in_order pairs same rising =
      record {
        same = λ p. (
          ⊎_elim (λ c. was_there p ((same p).0 c))
              (λ c. other_order (number_pairs xs) (flip p) (was_there (flip p) ((same (flip p)).0 c))),
          λ h. ⊎_elim (λ c. inl ((same p).1 c)) (λ c. inr ((same (flip p)).1 c))
              (⊎_elim (is_there p)
              (λ c. other_order (number_pairs ys) (flip p) (is_there (flip p) c)) h),
        );
        in_order = record {
          turned = λ p c.
              let at = at_from_contains (number_pairs ys) p ((same p).0 c) in
              (turned_back at.0 p at.1).3;
          rising = rising;
        };
      }
