-- A mirror of the code that writes letters: what each writer adds to a text. Private contracts cite
-- it; the public one speaks of `SpellsCodes`.
use Rattle.std.specs.Prelude.{◌≡◌, ℕ, List, ◌++◌, map}
use Rattle.std.specs.List.{AllByRecursion}
use Rattle.mm_code.specs.declared.code.Code.{Code}
use Rattle.mm_code.specs.Letters.{leading_letter, IsLeadingDigit, leading_value, SaysCode}

-- new is old with the letters of leading digits of this value at its end
pub record AppendsLeading (old new : List ℕ) (value : ℕ) : Type 0 where
  pub digits : List ℕ
  pub are_leading : AllByRecursion IsLeadingDigit digits
  pub is_worth : leading_value digits ≡ value
  pub text : new ≡ old ++ map leading_letter digits

-- new is old with what says the code at its end
pub record AppendsCode (old new : List ℕ) (code : Code) : Type 0 where
  pub piece : List ℕ
  pub says : SaysCode piece code
  pub text : new ≡ old ++ piece
