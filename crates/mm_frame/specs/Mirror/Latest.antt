-- The latest statement that is so. This file is cited by mirrors alone.
use Rattle.std.specs.Prelude.{◌≡◌, ℕ, ◌<◌, List, slice_get, Some}
use Rattle.mm_frame.specs.Sentence.{Sentence}

-- the statement at the index is so, and none after it is
pub record IsLatest (P : Sentence → Type 0) (statements : List Sentence) (index : ℕ) : Type 0 where
  pub statement : Sentence
  pub there : slice_get statements index ≡ Some statement
  pub holds : P statement
  pub last : (k : ℕ) (other : Sentence) → index < k → slice_get statements k ≡ Some other
      → ¬ (P other)
