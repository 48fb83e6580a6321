-- A set that is filled and emptied again. This file mirrors the code, and is cited by the invariant
-- of `Scratch` alone.
use Rattle.std.specs.Prelude.{◌≡◌, ℕ, ◌+◌, ◌<◌, ◌≤◌, ◌/◌, ◌^◌, List, length, slice_index_or, Bool}
use Rattle.std.specs.Prelude.{false}

-- each word that isn't 0 stands in a block that is marked
pub record IsNoted (words : List ℕ) (touched : List Bool) : Type 0 where
  pub wide : length touched ≡ length words / 64 + 1
  pub noted : (j : ℕ) → slice_index_or touched (j / 64) false ≡ false → slice_index_or words j 0 ≡ 0
  pub narrow : length words ≤ 2 ^ 58
  pub bits : (j : ℕ) → slice_index_or words j 0 < 2 ^ 64
