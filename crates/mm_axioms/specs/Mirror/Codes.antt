-- The type codes of statements, by number. This file mirrors the code, and is cited by private
-- contracts alone.
use Rattle.std.specs.Prelude.{◌≡◌, ◌<◌, ℕ, List, slice_get, Contains, Option, Some, None}
use Rattle.mm_frame.specs.declared.number.Sym.{Sym}
use Rattle.mm_frame.specs.Numbers.{IsNumberOf}
use Rattle.mm_frame.specs.Sentence.{Sentence}
use Rattle.mm_rules.specs.Rests.{AreRising}

-- the number is that of the first of these symbols; there is none where there is no symbol
abbrev pub IsCodeOf : List Sentence → List (List ℕ) → Option Sym → Type 0
IsCodeOf statements symbols None = slice_get symbols 0 ≡ None
IsCodeOf statements symbols (Some code) =
    (x : List ℕ) × (slice_get symbols 0 ≡ Some x) × IsNumberOf statements x code.0

-- the numbers rise, and each is less than the count
pub record AreNumbersWithin (count : ℕ) (numbers : List ℕ) : Type 0 where
  pub rising : AreRising numbers
  pub within : (n : ℕ) → Contains numbers n → n < count
