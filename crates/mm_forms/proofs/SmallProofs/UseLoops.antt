-- What the loops that list labels by use know on their way.
use Rattle.std.proofs.Common.{◌≡◌, ◌≢◌, ℕ, zero, suc, ◌+◌, ◌<◌, ◌≤◌, List, [], ◌∷◌, ◌++◌, length}
use Rattle.std.proofs.Common.{slice_get, get_or, take, set, Some, refl, sym, ap, ◌∙◌, arith}
use Rattle.std.proofs.Common.{true, false, ◌⊎◌, inl, inr, ⊎_elim, eqb}
use Rattle.std.proofs.Common.{◌-◌}
use Rattle.std.proofs.lemmas.Bool.{eqb-false}
use Rattle.std.proofs.lemmas.Option.{slice_get_within, get_or_from_slice_get}
use Rattle.std.proofs.lemmas.Map.Keys.{IsDistinct-from_apart, IsDistinct-IsPermutation}
use Rattle.std.proofs.lemmas.Map.Keys.{apart_from_distinct}
use Rattle.std.proofs.lemmas.Bool.Decides.{eqb_tells, nat_tests}
use Rattle.std.proofs.lemmas.List.{get_or_push, get_or_append_left, get_or-set_same}
use Rattle.std.proofs.lemmas.List.{get_or-set_other, length-append, length-set}
use Rattle.std.proofs.lemmas.List.Sums.{count_by_more_yes, count_by_more_no}
use Rattle.std.specs.Ordering.{nat_cmp, ordering_then}
use Rattle.std.specs.declared.cmp.Ordering.{Ordering}
use Rattle.std.specs.List.Sorted.{IsSortedByKeyClosure}
use Rattle.std.specs.Fn.{ComputesKey}
use Rattle.std.specs.declared.cmp.Reverse.{Reverse}
use Rattle.std.specs.Ordering.{is_lt}
use Rattle.std.specs.List.Sorted.{IsPermutation}
use Rattle.mm_code.specs.declared.code.Code.{Code}
use Rattle.mm_code.specs.declared.code.Code.TheVariants.{Number, Tag}
use Rattle.mm_forms.specs.declared.small.LabelUse.{LabelUse}
use Rattle.mm_forms.specs.Mirror.CodeSmall.{AreInOrder, AreLabelUses}
use Rattle.mm_forms.specs.Mirror.CodeSmall.{IsListed, is_number_of}
use denote.Param.Members.{Mut}
use denote.Ref.{Bor}

-- so far as the order was gone through
abbrev pub ArePlacesSo : ℕ → List LabelUse → List ℕ → Type 0
ArePlacesSo count order places =
    (k : ℕ) (one : LabelUse) → k < count → slice_get order k ≡ Some one
    → (place : ℕ) × (other : LabelUse) × (slice_get places one.index ≡ Some place)
    × (slice_get order place ≡ Some other) × (other.index ≡ one.index)

-- ---- counts

dec_eq : (a b : ℕ) → (a ≡ b) ⊎ (a ≢ b)
dec_eq a b = ⊎_elim (λ h. inl h.1) (λ h. inr h.1) (eqb_tells a b)

-- one more label that isn't used
pub unused_more : (own : ℕ) (uses : List LabelUse) (one : LabelUse) → AreLabelUses own [] uses
    → one.index ≡ length uses → one.uses ≡ 0 → AreLabelUses own [] (uses ++ one ∷ [])
unused_more own uses one are index none k d less =
    let n = length-append uses (one ∷ []) in
    elim (dec_eq k (length uses)) [
      | inl e ↦
          let at = get_or_push uses one d k (sym e) in
          rw at (index ∙ sym e, none)
      | inr apart ↦
          let within : k < length uses = omega (arith, n) in
          rw (get_or_append_left uses (one ∷ []) d k within) (are k d within)
    ]

same_index : (own k index : ℕ) (code : Code) → IsListed own k code → IsListed own index code
    → k ≡ index
same_index own k index code p q =
    let e : own + k + 1 ≡ own + index + 1 = cc in omega arith

eqb_flips : (a b : ℕ) → eqb a b ≡ eqb b a
eqb_flips a b = grind (arith, nat_tests)

-- whether the code is the number
listed_told : (own index : ℕ) (code : Code)
    → ((is_number_of (own + index + 1) code ≡ true) × IsListed own index code)
    ⊎ ((is_number_of (own + index + 1) code ≡ false) × ¬ (IsListed own index code))
listed_told own index Tag = inr (refl, λ e. absurd cc)
listed_told own index (Number n) = ⊎_elim
    (λ h. inl (h.0, ap Number (sym h.1)))
    (λ h. inr (h.0, λ e. h.1 (cc)))
    (eqb_tells (own + index + 1) n)

module _ (own : ℕ) (codes : List Code) (i : ℕ) (c : Code) (uses : List LabelUse) where
  -- a code that is the number of a label counts for it
  pub counted_more : (index : ℕ) (one e : LabelUse) → AreLabelUses own (take i codes) uses
      → i < length codes → IsListed own index (get_or codes i c) → index < length uses
      → one.index ≡ (get_or uses index e).index → one.uses ≡ (get_or uses index e).uses + 1
      → AreLabelUses own (take (i + 1) codes) (set uses index one)
  counted_more index one e are less listed within its more_used k d below =
      let long = length-set uses index one in
      let inside : k < length uses = omega (arith, long) in
      let old = are k d inside in
      elim (dec_eq k index) [
        | inl same ↦
            let now = are index e within in
            let here : get_or (set uses index one) k d ≡ one =
            rw same (get_or-set_same uses index one d within) in
            let yes : is_number_of (own + index + 1) (get_or codes i c) ≡ true =
            ⊎_elim (λ h. h.0) (λ h. absurd (h.1 listed))
            (listed_told own index (get_or codes i c)) in
            let more = count_by_more_yes (is_number_of (own + index + 1)) codes i c less yes in
            rw (here, same) (its ∙ now.0, more_used ∙ ap (λ u. u + 1) now.1 ∙ sym more)
        | inr apart ↦
            let told = listed_told own k (get_or codes i c) in
            let other : ¬ (IsListed own k (get_or codes i c)) = λ is. apart (same_index own k index
            (get_or codes i c) is listed) in
            let no : is_number_of (own + k + 1) (get_or codes i c) ≡ false =
            ⊎_elim (λ h. absurd (other h.1)) (λ h. h.0) told in
            let more = count_by_more_no (is_number_of (own + k + 1)) codes i c less no in
            rw (get_or-set_other uses index k one d apart) (old.0, old.1 ∙ sym more)
      ]

  -- another code counts for none
  pub counted_none : AreLabelUses own (take i codes) uses → i < length codes
      → ((index : ℕ) → index < length uses → ¬ (IsListed own index (get_or codes i c)))
      → AreLabelUses own (take (i + 1) codes) uses
  counted_none are less none k d below =
      let old = are k d below in
      let no : is_number_of (own + k + 1) (get_or codes i c) ≡ false =
      ⊎_elim (λ h. absurd (none k below h.1)) (λ h. h.0) (listed_told own k (get_or codes i c)) in
      let more = count_by_more_no (is_number_of (own + k + 1)) codes i c less no in
      (old.0, old.1 ∙ sym more)

-- ---- the order

-- by what entries are sorted
abbrev pub use_key : LabelUse → Reverse ℕ × ℕ
use_key u = (record { 0 = u.uses }, u.index)

abbrev pub by_key : Reverse ℕ × ℕ → Reverse ℕ × ℕ → Ordering
by_key x y = ordering_then (nat_cmp y.0.0 x.0.0) (nat_cmp x.1 y.1)

-- the first comes before the second, or has the same index
abbrev AtMost : LabelUse → LabelUse → Type 0
AtMost a b = (b.uses < a.uses) ⊎ ((a.uses ≡ b.uses) × (a.index ≤ b.index))

at_most_on : (a b c : LabelUse) → AtMost a b → AtMost b c → AtMost a c
at_most_on a b c p q =
    ⊎_elim
    (λ m. ⊎_elim (λ n. inl (omega (arith, m, n))) (λ n. inl (omega (arith, m, n.0))) q)
    (λ m. ⊎_elim (λ n. inl (omega (arith, m.0, n)))
    (λ n. inr (omega (arith, m.0, n.0), omega (arith, m.1, n.1))) q) p

module _ (xs ys : List LabelUse)
    (first : (k : ℕ) (d : LabelUse) → k < length xs → (get_or xs k d).index ≡ k)
    (permuted : IsPermutation xs ys)
    (sorted : (k : ℕ) (d : LabelUse) → k + 1 < length ys
    → AtMost (get_or ys k d) (get_or ys (k + 1) d)) where
  at_most_far : (n j : ℕ) (d : LabelUse) → j + n < length ys
      → AtMost (get_or ys j d) (get_or ys (j + n) d)
  at_most_far zero j d less =
      let e : j + 0 ≡ j = omega arith in rw e (inr (refl, omega arith))
  at_most_far (suc n) j d less =
      let e : j + suc n ≡ j + n + 1 = omega arith in
      let step = sorted (j + n) d (omega arith) in
      rw e (at_most_on _ _ _ (at_most_far n j d (omega arith)) step)

  -- no index stands twice
  apart : (j k : ℕ) (d : LabelUse) → j < k → k < length ys
      → (get_or ys j d).index ≢ (get_or ys k d).index
  apart j k d less below =
      let same = λ (a b : LabelUse). eqb a.index b.index in
      let distinct = IsDistinct-from_apart same xs (λ i m e before within.
      let p = first i e (omega arith) in
      let q = first m e within in
      ⊎_elim (λ h. absurd (omega (arith, h.1, p, q))) (λ h. h.0)
      (eqb_tells (get_or xs i e).index (get_or xs m e).index)) in
      let still = IsDistinct-IsPermutation same
      (λ a b. eqb_flips a.index b.index) xs ys permuted distinct in
      let told = apart_from_distinct same ys j k d still less below in
      eqb-false _ _ told

  pub in_order : AreInOrder ys
  in_order j k a b less p q =
      let within = slice_get_within ys k b q in
      let here : get_or ys j a ≡ a = get_or_from_slice_get ys j a a p in
      let there : get_or ys k a ≡ b = get_or_from_slice_get ys k b a q in
      let e : j + (k - j) ≡ k = omega arith in
      let far = rw (e, here, there) at (at_most_far (k - j) j a (omega arith)) in
      let other : a.index ≢ b.index = rw (here, there) at (apart j k a less within) in
      ⊎_elim (λ h. inl h) (λ h. inr (h.0, omega (arith, h.1, other))) far

-- ---- what a sort says

not_behind : (u v i j : ℕ) → is_lt (ordering_then (nat_cmp u v) (nat_cmp j i)) ≡ false
    → (v < u) ⊎ ((u ≡ v) × (i ≤ j))
not_behind u v i j e = grind (arith, nat_tests)

pub sorted_by_use : {F : Type 0} {g : Mut F (Bor LabelUse × Unit {0}) (Reverse ℕ × ℕ)} {f : F}
    (xs ys : List LabelUse) → ((k : ℕ) (d : LabelUse) → k < length xs → (get_or xs k d).index ≡ k)
    → IsSortedByKeyClosure g by_key f ys → IsPermutation xs ys → ComputesKey g use_key f
    → AreInOrder ys
sorted_by_use xs ys first sorted permuted keys =
    in_order xs ys first permuted (λ k d less.
    not_behind (get_or ys k d).uses (get_or ys (k + 1) d).uses (get_or ys k d).index
    (get_or ys (k + 1) d).index (sorted use_key keys k d (omega arith) less))
