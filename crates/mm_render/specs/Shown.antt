-- The text of the listing of a theorem's proof, which is this project's own.
use Rattle.std.specs.Prelude.{◌≡◌, ℕ, ◌+◌, List, [], ◌∷◌, ◌++◌, take, slice_get, true, Some, codes}
use Rattle.std.specs.Prelude.{decimal}
use Rattle.mm_base.specs.Statement.{PlainStatement}
use Rattle.mm_frame.specs.Sentence.{Sentence, sentence_of, IsLabelled}
use Rattle.mm_step.specs.Moves.{Move}
use Rattle.mm_proof.specs.Tokens.{SayMoves}
use Rattle.mm_listing.specs.Listing.{StepName, by_label, by_step, ListedStep, AreListed}
use Rattle.mm_rules.specs.Verdict.{proof_of, is_proof, sentences}
use Rattle.mm_rules.specs.Shown.{symbols_text}

-- what a step is called: its label; or `@` and the number of the step after which its tag stands
abbrev pub name_text : StepName → List ℕ
name_text (by_label label) = label
name_text (by_step number) = codes "@" ++ decimal number

-- the line of a step with a number: the number, the name, and the symbols of the expression that
-- the step pushes
abbrev pub step_text : ℕ → ListedStep → List ℕ
step_text number step =
    decimal number ++ codes " " ++ name_text step.called ++ symbols_text step.expression
    ++ codes "\n"

-- the lines of steps, the first of which has this number
abbrev pub steps_text : ℕ → List ListedStep → List ℕ
steps_text number [] = []
steps_text number (step ∷ steps) = step_text number step ++ steps_text (number + 1) steps

-- the text of a listing: its steps are numbered from 1 on
abbrev pub listing_text : List ListedStep → List ℕ
listing_text steps = steps_text 1 steps

-- the text is that of the listing of the moves that the tokens say, as a proof of a `$p` after the
-- statements before it
pub record IsListingText (before : List Sentence) (s : Sentence) (tokens : List (List ℕ))
    (text : List ℕ) : Type 0 where
  pub moves : List (Move (List ℕ))
  pub told : SayMoves before s tokens moves
  pub steps : List ListedStep
  pub listed : AreListed before moves steps
  pub laid : text ≡ listing_text steps

-- the text is that of the listing of the proof of the theorem with the label, which is complete
pub record ShowsProof (statements : List PlainStatement) (label : List ℕ)
    (text : List ℕ) : Type 0 where
  pub index : ℕ
  pub s : PlainStatement
  pub there : slice_get statements index ≡ Some s
  pub named : IsLabelled label (sentence_of s)
  pub complete : is_proof s ≡ true
  pub shown : IsListingText (sentences (take index statements)) (sentence_of s) (proof_of s) text
