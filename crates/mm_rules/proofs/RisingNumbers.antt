-- Among rising numbers each stands once.
use Rattle.std.proofs.Common.{◌≡◌, ℕ, ◌<◌, List, slice_get}
use Rattle.std.proofs.Common.{Some, inl, inr, arith}
use Rattle.std.proofs.lemmas.Bool.{cases_eq, cases_lt}
use Rattle.mm_rules.specs.Rests.{AreRising}

-- each number stands once
pub rising_once : (ids : List ℕ) (i j x : ℕ) → AreRising ids → slice_get ids i ≡ Some x
    → slice_get ids j ≡ Some x → i ≡ j
rising_once ids i j x rising at there = elim (cases_eq i j) [
  | inl same ↦ same
  | inr other ↦ absurd (elim (cases_lt i j) [
    | inl less ↦ let h : x < x = rising i j x x less at there in omega arith
    | inr more ↦ let h : x < x = rising j i x x (omega arith) there at in omega arith
  ])
]
