-- The first of the changes that are so, one change after the other.
use Rattle.std.proofs.Common.{◌≡◌, ℕ, zero, suc, ◌<◌, List, [], ◌∷◌, ◌++◌, length, inl, inr, refl}
use Rattle.std.proofs.Common.{ap, arith}
use Rattle.mm_mend.specs.Mend.{AreFirst}
use Rattle.mm_mend.specs.declared.change.Change.{Change}

module _ (P : Change → Type 0) where
  -- none is wanted
  none_wanted : (changes found : List Change) → found ≡ [] → AreFirst P 0 changes found
  none_wanted [] found none = none
  none_wanted (change ∷ changes) found none = none

  -- one more is so
  pub first_more : (most : ℕ) (done : List Change) (change : Change) (found : List Change)
      → length found < most → AreFirst P most done found → P change
      → AreFirst P most (done ++ change ∷ []) (found ++ change ∷ [])
  first_more zero done change found less are so = absurd (omega arith)
  first_more (suc most) [] change found less are so =
      inl (so, ([], ap (λ (l : List Change). l ++ change ∷ []) are, refl))
  first_more (suc most) (d ∷ done) change found less (inl (is, (others, whole, are))) so =
      inl (
        is,
        (
          others ++ change ∷ [],
          ap (λ (l : List Change). l ++ change ∷ []) whole,
          first_more most done change others
              (omega (arith, ap (λ (l : List Change). length l) whole)) are so,
        ),
      )
  first_more (suc most) (d ∷ done) change found less (inr (not, are)) so =
      inr (not, first_more (suc most) done change found less are so)

  -- one more isn't
  pub first_other : (most : ℕ) (done : List Change) (change : Change) (found : List Change)
      → AreFirst P most done found → ¬ (P change) → AreFirst P most (done ++ change ∷ []) found
  first_other zero [] change found are not = are
  first_other zero (d ∷ done) change found are not = are
  first_other (suc most) [] change found are not = inr (not, are)
  first_other (suc most) (d ∷ done) change found (inl (is, (others, whole, are))) not =
      inl (is, (others, whole, first_other most done change others are not))
  first_other (suc most) (d ∷ done) change found (inr (other, are)) not =
      inr (other, first_other (suc most) done change found are not)

  -- so many are found that no more are wanted
  pub first_full : (most : ℕ) (done more : List Change) (found : List Change)
      → AreFirst P most done found → length found ≡ most → AreFirst P most (done ++ more) found
  first_full zero [] more found are full = none_wanted more found are
  first_full zero (d ∷ done) more found are full = are
  first_full (suc most) [] more found are full =
      absurd (omega (arith, ap (λ (l : List Change). length l) are))
  first_full (suc most) (d ∷ done) more found (inl (is, (others, whole, are))) full =
      inl (
        is,
        (
          others,
          whole,
          first_full most done more others are
              (omega (arith, ap (λ (l : List Change). length l) whole)),
        ),
      )
  first_full (suc most) (d ∷ done) more found (inr (not, are)) full =
      inr (not, first_full (suc most) done more found are full)
