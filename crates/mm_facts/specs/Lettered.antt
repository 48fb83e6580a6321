-- The listing of a proof that tells where each step stands and its letters. The text is this
-- project's own.
use Rattle.std.specs.Prelude.{◌≡◌, ℕ, ◌+◌, List, [], ◌∷◌, ◌++◌, length, slice_get, Some, codes}
use Rattle.std.specs.Prelude.{decimal}
use Rattle.std.specs.List.{flat_map}
use Rattle.mm_base.specs.Token.{PlainToken}
use Rattle.mm_text.specs.Files.{PlainFile}
use Rattle.mm_code.specs.Words.{texts_of}
use Rattle.mm_listing.specs.Listing.{ListedStep}
use Rattle.mm_places.specs.StepLetters.{HasLetters}
use Rattle.mm_rules.specs.Shown.{symbols_text}
use Rattle.mm_facts.specs.Explained.{judged_tokens}
use Rattle.mm_facts.specs.StepTexts.{called_text, position_text, IsMovePosition}

-- the letters, and `-` for none
abbrev pub letters_text : List ℕ → List ℕ
letters_text [] = codes "-"
letters_text (letter ∷ letters) = letter ∷ letters

-- The line of the step with a number, from 1 on, of the proof that the tokens in the files say, as
-- far as it is known: its number, the line and the column of its place, its letters, what it is
-- called, and the symbols of the expression that it pushes. The place is that of its label, or of
-- the last letter of its number.
pub record IsLetteredLine (files : List PlainFile) (tokens : List PlainToken) (number : ℕ)
    (step : ListedStep) (line : List ℕ) : Type 0 where
  pub index : ℕ
  pub letters : List ℕ
  pub spelled : HasLetters (judged_tokens (texts_of tokens)) number index letters
  pub file : ℕ
  pub at : ℕ
  pub place : IsMovePosition tokens index file at
  pub said : line ≡ decimal number ++ codes " " ++ position_text files file at ++ codes " "
      ++ letters_text letters ++ codes " " ++ called_text step.called
      ++ symbols_text step.expression ++ codes "\n"

-- the text is made of a line for each of the steps, in order
pub record AreLetteredLines (files : List PlainFile) (tokens : List PlainToken)
    (steps : List ListedStep) (text : List ℕ) : Type 0 where
  pub lines : List (List ℕ)
  pub many : length lines ≡ length steps
  pub each : (n : ℕ) (step : ListedStep) (line : List ℕ) → slice_get steps n ≡ Some step
      → slice_get lines n ≡ Some line → IsLetteredLine files tokens (n + 1) step line
  pub joined : text ≡ flat_map (λ line. line) lines
