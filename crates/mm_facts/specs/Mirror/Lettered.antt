-- What the code of a listing with letters knows on its way: it mirrors the code.
use Rattle.std.specs.Prelude.{◌≡◌, ℕ, ◌+◌, ◌<◌, List, ◌++◌, length, slice_get, Some, codes, decimal}
use Rattle.std.specs.List.{flat_map}
use Rattle.mm_base.specs.Token.{PlainToken}
use Rattle.mm_text.specs.Files.{PlainFile}
use Rattle.mm_listing.specs.Listing.{ListedStep}
use Rattle.mm_places.specs.declared.letters.StepLetters.{StepLetters}
use Rattle.mm_places.specs.StepLetters.{HasLetters}
use Rattle.mm_rules.specs.Shown.{symbols_text}
use Rattle.mm_facts.specs.Explained.{judged_tokens}
use Rattle.mm_facts.specs.Lettered.{letters_text, IsLetteredLine}
use Rattle.mm_facts.specs.StepTexts.{called_text, position_text}

-- the line of the step with a number, which stands at a position in a file and has these letters
abbrev pub line_text : List PlainFile → (number : ℕ) → (position : ℕ × ℕ) → (letters : List ℕ)
    → ListedStep → List ℕ
line_text files number position letters step =
    decimal number ++ codes " " ++ position_text files position.0 position.1 ++ codes " "
    ++ letters_text letters ++ codes " " ++ called_text step.called
    ++ symbols_text step.expression ++ codes "\n"

-- the steps that the judged ones of the tokens say have these letters, and stand at moves of which
-- there are so many
abbrev pub HaveStepLetters : (tokens : List (List ℕ)) → (count : ℕ) → List StepLetters → Type 0
HaveStepLetters tokens count steps =
    (n : ℕ) (step : StepLetters) → slice_get steps n ≡ Some step
    → HasLetters (judged_tokens tokens) (n + 1) step.index step.letters.items
    × (step.index < count)

-- the text is made of the lines of so many first steps
pub record TellFirst (files : List PlainFile) (tokens : List PlainToken)
    (steps : List ListedStep) (count : ℕ) (text : List ℕ) : Type 0 where
  pub lines : List (List ℕ)
  pub many : length lines ≡ count
  pub each : (n : ℕ) (step : ListedStep) (line : List ℕ) → slice_get steps n ≡ Some step
      → slice_get lines n ≡ Some line → IsLetteredLine files tokens (n + 1) step line
  pub joined : text ≡ flat_map (λ line. line) lines
