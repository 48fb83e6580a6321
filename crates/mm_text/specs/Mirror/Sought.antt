-- How the code looks for the first byte of a kind: so many bytes at once. This file mirrors the
-- code, and is cited by private contracts alone.
use Rattle.std.specs.Prelude.{◌≡◌, ℕ, ◌+◌, ◌<◌, ◌≤◌, ◌==◌, if◌then◌else◌}
use Rattle.std.specs.Int.{w64, trailing_zeros}
use Rattle.std.specs.Prelude.{Bool, true, false, List, slice_index}

-- the first bytes of so many from a position on, up to a run of them, are passed over, and the next
-- one of so many isn't
pub record IsRunIn (passed : ℕ → Bool) (bytes : List ℕ) (at n run : ℕ) : Type 0 where
  pub few : run ≤ n
  pub passes : (k : ℕ) → at ≤ k → k < at + run → passed (slice_index bytes k) ≡ true
  pub stops : run < n → passed (slice_index bytes (at + run)) ≡ false

-- the position of the lowest bit that is set, or n
abbrev pub first_set : ℕ → ℕ → ℕ
first_set mask n = if mask == 0 then n else trailing_zeros w64 mask
