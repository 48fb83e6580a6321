-- The sizes of shortest chains to an assertion, by number. This file mirrors the code, and is cited
-- by private contracts alone.
use Rattle.std.specs.Prelude.{◌≡◌, ◌≢◌, ℕ, ◌+◌, ◌<◌, ◌≤◌, List, slice_index_or, Contains}
use Rattle.mm_rules.specs.Conclusion.{ProofUses}

-- how many labels a shortest chain from a number has; 0 where none leads from it
abbrev pub size_at : List ℕ → ℕ → ℕ
size_at sizes n = slice_index_or sizes n 0

-- one more than the least size of these numbers; 0 where none of them has one
pub record IsSizeOver (sizes used : List ℕ) (size : ℕ) : Type 0 where
  pub least : (n : ℕ) → Contains used n → 0 < size_at sizes n
      → (0 < size) × (size ≤ size_at sizes n + 1)
  pub found : 0 < size → (n : ℕ) × Contains used n × (0 < size_at sizes n)
      × (size ≡ size_at sizes n + 1)

-- the size of the end is 1; that of another proof is told by those of what it uses; no other number
-- has one
pub record AreSizes (uses : List ProofUses) (to : ℕ) (sizes : List ℕ) : Type 0 where
  pub end : size_at sizes to ≡ 1
  pub over : (u : ProofUses) → Contains uses u → u.number ≢ to
      → IsSizeOver sizes u.used (size_at sizes u.number)
  pub only : (n : ℕ) → n ≢ to → 0 < size_at sizes n
      → (u : ProofUses) × Contains uses u × (u.number ≡ n)
