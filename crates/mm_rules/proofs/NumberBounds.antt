-- Where a number stands among rising ones: between bounds that close in.
use Rattle.std.proofs.Common.{◌≡◌, ℕ, ◌+◌, ◌<◌, ◌≤◌, List, length}
use Rattle.std.proofs.Common.{slice_get, Contains}
use Rattle.std.proofs.Common.{Some, inl, inr, arith}
use Rattle.std.proofs.lemmas.Bool.{cases_eq, cases_lt}
use Rattle.mm_base.proofs.Lists.{at_from_contains}
use Rattle.mm_rules.specs.Rests.{AreRising}

-- ==== a search among rising numbers

-- where the number stands is within these bounds
abbrev pub IsWithinBounds : List ℕ → (x low high : ℕ) → Type 0
IsWithinBounds ids x low high = (high ≤ length ids) × ((i : ℕ) → slice_get ids i ≡ Some x → (low ≤ i) × (i < high))

pub bounds_above : (ids : List ℕ) (x low high middle v : ℕ) → AreRising ids → IsWithinBounds ids x low high → slice_get ids middle ≡ Some v → v < x
    → IsWithinBounds ids x (middle + 1) high
bounds_above ids x low high middle v rising h at less = (
  h.0,
  λ i there. (
    (elim (cases_lt middle i) [
      | inl later ↦ omega arith
      | inr up ↦ absurd (elim (cases_eq i middle) [
        | inl same ↦ let one : x ≡ v = cc (same, there, at) in omega arith
        | inr apart ↦ let more : x < v = rising i middle x v (omega arith) there at in omega arith
      ])
    ]),
    (h.1 i there).1,
  ),
)

pub bounds_below : (ids : List ℕ) (x low high middle v : ℕ) → AreRising ids → IsWithinBounds ids x low high → slice_get ids middle ≡ Some v → x < v → middle < high
    → IsWithinBounds ids x low middle
bounds_below ids x low high middle v rising h at less within = (
  let top : high ≤ length ids = h.0 in omega arith,
  λ i there. (
    (h.1 i there).0,
    (elim (cases_lt i middle) [
      | inl earlier ↦ earlier
      | inr up ↦ absurd (elim (cases_eq i middle) [
        | inl same ↦ let one : x ≡ v = cc (same, there, at) in omega arith
        | inr apart ↦ let more : v < x = rising middle i v x (omega arith) at there in omega arith
      ])
    ]),
  ),
)

pub bounds_empty : (ids : List ℕ) (x low high : ℕ) → IsWithinBounds ids x low high → high ≤ low → ¬ (Contains ids x)
bounds_empty ids x low high h none among =
    let (i, at) = at_from_contains ids x among in
    let both = h.1 i at in
    let a : low ≤ i = both.0 in let b : i < high = both.1 in omega arith
