-- What is seen of a table of names. This file mirrors the code, and is cited by private contracts,
-- and by the model and invariant of `Names`.
use Rattle.std.specs.Prelude.{◌≡◌, ℕ}
use Rattle.std.specs.Prelude.{List, [], ◌∷◌, length, slice_get, Contains, Option}
use Rattle.std.specs.Prelude.{Some, MatchOption}

-- the names by number, and for how many more there is room
pub record NameTable : Type 0 where
  pub names : List (List ℕ)
  pub room : ℕ

-- the table tells of each byte the number of the name that is this byte alone, if there is one
pub record AreByByte (names : List (List ℕ)) (by_byte : List (Option ℕ)) : Type 0 where
  pub count : length by_byte ≡ 256
  pub each : (byte : ℕ) (number : Option ℕ) → slice_get by_byte byte ≡ Some number
      → MatchOption number
      (¬ (Contains names (byte ∷ [])))
      (λ n. slice_get names n ≡ Some (byte ∷ []))
