-- Laws of the numbers of symbols as statements are added, of open blocks, and of frames.
use Rattle.std.specs.Prelude.{◌≡◌, ◌↔◌, ℕ, ◌+◌, ◌<◌, ◌≤◌, List, ◌++◌, length, take}
use Rattle.std.specs.Prelude.{slice_get, Contains, Some, ◌⊎◌}
use Rattle.mm_frame.specs.Sentence.{Sentence}
use Rattle.mm_frame.specs.Active.{IsConstant, IsVariable, IsOpen, open_marks, close_marks}
use Rattle.mm_frame.specs.Frame.{AreMandatory}
use Rattle.mm_frame.specs.Numbers.{IsNumberOf}

-- Exactly the declared symbols have numbers; a symbol has one number, and a number one symbol; and
-- it stays so.
abbrev pub OneNumber : Type 0
OneNumber =
    (statements more : List Sentence) (x : List ℕ)
    → ((IsConstant statements x ⊎ IsVariable statements x) ↔ ((n : ℕ) × IsNumberOf statements x n))
    × ((m n : ℕ) → IsNumberOf statements x m → IsNumberOf statements x n → m ≡ n)
    × ((y : List ℕ) (n : ℕ) → IsNumberOf statements x n → IsNumberOf statements y n → x ≡ y)
    × ((n : ℕ) → IsNumberOf statements x n → IsNumberOf (statements ++ more) x n)

-- these are the indices of the `${` of the open blocks, the outermost first
pub record AreOpen (statements : List Sentence) (indices : List ℕ) : Type 0 where
  pub rising : (i j p q : ℕ) → slice_get indices i ≡ Some p → slice_get indices j ≡ Some q → i < j
      → p < q
  pub each : (p : ℕ) → IsOpen statements p ↔ Contains indices p

-- Where no `$}` lacks its `${`, the number of open blocks is that of the `${` less that of the
-- `$}`.
abbrev pub OpenCount : Type 0
OpenCount =
    (statements : List Sentence)
    → ((n : ℕ) → close_marks (take n statements) ≤ open_marks (take n statements))
    → (indices : List ℕ) × AreOpen statements indices
    × (close_marks statements + length indices ≡ open_marks statements)

-- An assertion has one list of mandatory hypotheses.
abbrev pub OneFrame : Type 0
OneFrame =
    (before : List Sentence) (s : Sentence) (hypotheses others : List Sentence)
    → AreMandatory before s hypotheses → AreMandatory before s others → hypotheses ≡ others
