-- How facts tell a step of a proof: by its number, what it is called, and where it stands. The text
-- is this project's own.
use Rattle.std.specs.Prelude.{◌≡◌, ℕ, ◌+◌, List, ◌∷◌, ◌++◌, length, slice_get, Some, true, codes}
use Rattle.std.specs.Prelude.{decimal}
use Rattle.mm_base.specs.Token.{PlainToken}
use Rattle.mm_text.specs.Files.{PlainFile}
use Rattle.mm_text.specs.LineNumbers.{line_of}
use Rattle.mm_code.specs.Words.{texts_of}
use Rattle.mm_step.specs.Moves.{Move, is_step, steps_in}
use Rattle.mm_listing.specs.Listing.{StepName, by_label, by_step, IsCalled}
use Rattle.mm_places.specs.Places.{IsMovePlace}
use Rattle.mm_rules.specs.Places.{column_of}

-- what a step is called: its label; or `@` and the number of the step after which its tag stands
abbrev pub called_text : StepName → List ℕ
called_text (by_label label) = label
called_text (by_step number) = codes "@" ++ decimal number

-- the line and the column of a position in one of the files
abbrev pub position_text : List PlainFile → (file at : ℕ) → List ℕ
position_text files file at =
    decimal (line_of files file at) ++ codes ":" ++ decimal (column_of files file at)

-- the move with an index, of those that the tokens say, stands at a position in a file
abbrev pub IsMovePosition : (tokens : List PlainToken) → (index : ℕ) → (file at : ℕ) → Type 0
IsMovePosition tokens index file at =
    (token : ℕ) × (byte : ℕ) × (there : PlainToken)
    × IsMovePlace (texts_of tokens) index token byte × (slice_get tokens token ≡ Some there)
    × (file ≡ there.file) × (at ≡ there.at + byte)

-- the text tells the step with a number, which is called so, and is the move with an index
abbrev pub TellsMove : List PlainFile → (tokens : List PlainToken) → (index number : ℕ) → StepName
    → (text : List ℕ) → Type 0
TellsMove files tokens index number called text =
    (file : ℕ) × (at : ℕ) × IsMovePosition tokens index file at
    × (text ≡ decimal number ++ codes ", " ++ called_text called ++ codes " at "
    ++ position_text files file at)

-- The text tells the step with a number, from 1 on, of the moves that the tokens say: as `24, wo at
-- 72461:70`, with the place of its label, or that of the last letter of its number.
pub record IsStepText (files : List PlainFile) (tokens : List PlainToken)
    (moves : List (Move (List ℕ))) (number : ℕ) (text : List ℕ) : Type 0 where
  pub earlier : List (Move (List ℕ))
  pub move : Move (List ℕ)
  pub later : List (Move (List ℕ))
  pub parts : moves ≡ earlier ++ move ∷ later
  pub step_made : is_step move ≡ true
  pub count : number ≡ steps_in earlier + 1
  pub called : StepName
  pub named : IsCalled earlier move called
  pub told : TellsMove files tokens (length earlier) number called text
