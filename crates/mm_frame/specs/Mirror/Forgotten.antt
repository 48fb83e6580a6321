-- What is left of a list of indices. This file mirrors the code, and is cited by private contracts
-- alone.
use Rattle.std.specs.Prelude.{◌≡◌, ℕ, suc, List, ◌++◌, length, slice_get, Some}
use Rattle.mm_frame.specs.Sentence.{Sentence}
use Rattle.mm_frame.specs.Active.{IsActive}

-- the indices at the end were dropped as far as none of them is active
pub record AreForgotten (statements : List Sentence) (before after : List ℕ) : Type 0 where
  pub gone : List ℕ
  pub parted : before ≡ after ++ gone
  pub inactive : (i p : ℕ) → slice_get gone i ≡ Some p → ¬ (IsActive statements p)
  pub last_active : (k p : ℕ) → length after ≡ suc k → slice_get after k ≡ Some p
      → IsActive statements p
