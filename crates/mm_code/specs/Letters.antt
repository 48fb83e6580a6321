-- The letter code of compressed proofs: what its letters say (the Metamath book, section 4.4.3 and
-- appendix B).
use Rattle.std.specs.Prelude.{◌≡◌, ℕ, ◌+◌, ◌*◌, ◌<◌, ◌≤◌, min, List, [], ◌∷◌, ◌++◌, map, fold, All}
use Rattle.std.specs.Prelude.{Any, Result, Ok, Err}
use Rattle.std.specs.Global.{Vec}
use denote.Ref.{Bor}
use Rattle.std.specs.List.{flat_map, AllByRecursion, AllZip}
use Rattle.mm_code.specs.declared.code.Code.{Code}
use Rattle.mm_code.specs.declared.code.Code.TheVariants.{Number, Tag}
use Rattle.mm_code.specs.declared.code.CodeRule.{CodeRule}
use Rattle.mm_code.specs.declared.code.CodeRule.TheVariants.{P4, P5}
use Rattle.mm_code.specs.declared.code.CodeFault.{CodeFault}
use Rattle.mm_code.specs.declared.code.CodeFault.TheVariants.{Rule, Memory}

-- the last digits 1 to 20 are the letters `A` to `T`
abbrev pub last_letter : ℕ → ℕ
last_letter digit = 64 + digit

abbrev pub IsLastDigit : ℕ → Type 0
IsLastDigit digit = (1 ≤ digit) × (digit ≤ 20)

-- the leading digits 1 to 5 are the letters `U` to `Y`
abbrev pub leading_letter : ℕ → ℕ
leading_letter digit = 84 + digit

abbrev pub IsLeadingDigit : ℕ → Type 0
IsLeadingDigit digit = (1 ≤ digit) × (digit ≤ 5)

-- a tag is `Z`
abbrev pub tag_letter : ℕ
tag_letter = 90

-- what leading digits are worth: base 5, built from the left, and 0 for none
abbrev pub leading_value : List ℕ → ℕ
leading_value digits = fold (λ value digit. 5 * value + digit) 0 digits

-- The text spells the number: leading digits, and one last digit.
pub record IsSpelling (text : List ℕ) (number : ℕ) : Type 0 where
  pub leading : List ℕ
  pub last : ℕ
  pub are_leading : AllByRecursion IsLeadingDigit leading
  pub is_last : IsLastDigit last
  pub letters : text ≡ map leading_letter leading ++ last_letter last ∷ []
  pub value : number ≡ 20 * leading_value leading + last

-- the piece of text that says a code: a spelling of the number, or `Z`
abbrev pub SaysCode : List ℕ → Code → Type 0
SaysCode piece (Number number) = IsSpelling piece number
SaysCode piece Tag = piece ≡ tag_letter ∷ []

-- The text is pieces joined, one for each code that says it: a spelling of each number, and `Z` for
-- each tag. Here a number has no upper bound.
pub record SpellsCodes (text : List ℕ) (codes : List Code) : Type 0 where
  pub pieces : List (List ℕ)
  pub each : AllZip SaysCode pieces codes
  pub joined : text ≡ flat_map (λ piece. piece) pieces

-- the largest number that a code holds
abbrev pub largest : ℕ
largest = 4294967295

-- the code for a number: itself up to the largest one, and that one for each above it
abbrev pub code_for : Code → Code
code_for (Number number) = Number (min number largest)
code_for Tag = Tag

-- The text's letters are these codes: it spells numbers and tags, and these are the codes for them.
pub record Letters (text : List ℕ) (codes : List Code) : Type 0 where
  pub spelled : List Code
  pub spells : SpellsCodes text spelled
  pub are_codes : codes ≡ map code_for spelled

-- `A` to `Z`
abbrev pub IsLetter : ℕ → Type 0
IsLetter byte = (65 ≤ byte) × (byte ≤ 90)

-- `U` to `Y`
abbrev pub IsLeadingLetter : ℕ → Type 0
IsLeadingLetter byte = (85 ≤ byte) × (byte ≤ 89)

-- nothing more, or `Z`
abbrev pub IsEndOrTag : List ℕ → Type 0
IsEndOrTag [] = Unit {0}
IsEndOrTag (byte ∷ bytes) = byte ≡ tag_letter

-- Somewhere leading digits are followed by `Z` or by the end.
pub record IsCut (text : List ℕ) : Type 0 where
  pub before : List ℕ
  pub digit : ℕ
  pub after : List ℕ
  pub whole : text ≡ before ++ digit ∷ after
  pub is_leading : IsLeadingLetter digit
  pub stops : IsEndOrTag after

-- the numbers that have a spelling: those from 1 on
abbrev pub HasSpelling : Code → Type 0
HasSpelling (Number number) = 1 ≤ number
HasSpelling Tag = Unit {0}

-- a number that stands for itself alone
abbrev pub IsExact : Code → Type 0
IsExact (Number number) = number < largest
IsExact Tag = Unit {0}

-- the fault that a call answers is this one, or `Memory`
abbrev pub IsFaultIn : CodeFault → Result (List Code) CodeRule → Type 0
IsFaultIn (Rule rule) answer = answer ≡ Err rule
IsFaultIn Memory answer = Unit {0}

-- The call answers this, or `Memory`.
abbrev pub Answers : Result (Vec Code) CodeFault → Result (List Code) CodeRule → Type 0
Answers (Ok codes) answer = answer ≡ Ok codes.items
Answers (Err fault) answer = IsFaultIn fault answer

-- The call, which left these codes in the list, answers this, or `Memory`.
abbrev pub Fills : {X : Type 0} → Result X CodeFault → List Code → Result (List Code) CodeRule
    → Type 0
Fills (Ok done) codes answer = answer ≡ Ok codes
Fills (Err fault) codes answer = IsFaultIn fault answer

-- The letters break this rule: a byte is no letter; or else leading digits are followed by `Z` or
-- by the end.
abbrev pub LettersBreak : CodeRule → List ℕ → Type 0
LettersBreak P4 text = Any (λ byte. ¬ (IsLetter byte)) text
LettersBreak P5 text = All IsLetter text × IsCut text

-- the letters of tokens that white space cut apart
abbrev pub joined_tokens : List (Bor (List ℕ)) → List ℕ
joined_tokens tokens = flat_map (λ token. token.now) tokens
