-- Symbols that were looked up. This file mirrors the code, and is cited by private contracts alone.
use Rattle.std.specs.Prelude.{◌≡◌, ◌⊎◌, ℕ, List, length, slice_get, None, Some}
use Rattle.mm_frame.specs.Sentence.{Sentence, IsUse}
use Rattle.mm_frame.specs.Numbers.{symbols_of, IsNumberOf}
use Rattle.mm_frame.specs.Mirror.Layout.{IsDeclared}

-- the symbol with the number is so
abbrev pub IsOfNumber : List Sentence → ℕ → (List ℕ → Type 0) → Type 0
IsOfNumber statements number P = (symbol : List ℕ) × IsNumberOf statements symbol number × P symbol

-- what a look-up of a symbol gives: its number, or where it isn't declared a number that no symbol
-- has
abbrev pub IsSought : List Sentence → List ℕ → ℕ → Type 0
IsSought statements symbol number =
    IsNumberOf statements symbol number
    ⊎ ¬ (IsDeclared statements symbol) × (slice_get (symbols_of statements) number ≡ None)

-- these symbols were looked up, and gave these numbers
pub record AreSought (statements : List Sentence) (numbers : List ℕ)
    (symbols : List (List ℕ)) : Type 0 where
  pub count : length numbers ≡ length symbols
  pub each : (i number : ℕ) (symbol : List ℕ) → slice_get numbers i ≡ Some number
      → slice_get symbols i ≡ Some symbol
      → IsSought statements symbol number

-- the symbols of a statement that uses symbols were looked up, and gave these numbers
pub record HasNumbers (statements : List Sentence) (numbers : List ℕ) (s : Sentence) : Type 0 where
  pub sought : IsUse s.kind → AreSought statements numbers s.symbols
