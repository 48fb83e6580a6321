-- The variables of expressions, by numbers: they mirror the code.
use Rattle.std.specs.Prelude.{◌≡◌, ℕ, List, drop, Contains, ◌↔◌, ◌⊎◌}
use Rattle.mm_frame.specs.Sentence.{Sentence}
use Rattle.mm_step.specs.Mirror.CodeAsked.{IsVariableNumber}

-- the same numbers stand in both lists, however often
abbrev pub HaveSame : (old new : List ℕ) → Type 0
HaveSame old new = (n : ℕ) → Contains new n ↔ Contains old n

-- the number was put among the others if it is that of a variable
abbrev pub AddsVariable : List Sentence → ℕ → (old new : List ℕ) → Type 0
AddsVariable statements m old new =
    (n : ℕ) → Contains new n ↔ (Contains old n ⊎ (IsVariableNumber statements n × (m ≡ n)))

-- these are the variables of the expression
abbrev pub AreItsVariables : List Sentence → (e variables : List ℕ) → Type 0
AreItsVariables statements e variables =
    (n : ℕ) → Contains variables n ↔ (IsVariableNumber statements n × Contains e n)

-- no symbol stands in the row that isn't in the entry, and behind its first symbol it has the
-- variables that the entry has there
pub record HasItsVariables (statements : List Sentence) (entry row : List ℕ) : Type 0 where
  pub only : (n : ℕ) → Contains row n → Contains entry n
  pub variables : AreItsVariables statements (drop 1 entry) (drop 1 row)
