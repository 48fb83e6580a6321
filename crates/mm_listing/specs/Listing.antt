-- The listing of a proof: what each step is called, and what it puts on the stack (the Metamath
-- book, sections 4.1.4, 4.3 and 4.4.3, appendix B).
use Rattle.std.specs.Prelude.{◌≡◌, ℕ, ◌+◌, List, [], ◌∷◌, ◌++◌, length, take, slice_get, Some}
use Rattle.std.specs.Prelude.{Bool, true, false}
use Rattle.std.specs.List.{AllZip}
use Rattle.mm_frame.specs.Sentence.{Sentence, IsLabelled}
use Rattle.mm_frame.specs.Numbers.{labelled_sentences, AreNumbers}
use Rattle.mm_step.specs.Substitution.{Expression}
use Rattle.mm_step.specs.Tree.{Trees, none, tree, beside, Derives}
use Rattle.mm_step.specs.Moves.{Move, name, again, mark, is_step, steps_in, Makes}
use Rattle.mm_step.specs.Stores.{numbers_in}
use Rattle.mm_listing.specs.declared.lines.Name.{Name}
use Rattle.mm_listing.specs.declared.lines.Name.TheVariants as names
use Rattle.mm_listing.specs.declared.lines.Line.{Line}

-- what a step is called: by its label; or by the number of the step after which its tag stands
pub data StepName : Type 0 where
  by_label : (label : List ℕ) → StepName
  by_step : (number : ℕ) → StepName

-- a step of a listing: what it is called, and the expression that it puts on the stack
pub record ListedStep : Type 0 where
  pub called : StepName
  pub expression : Expression

-- The tag with a number, from 0 on, stands after this step: its mark comes after so many steps and
-- so many other marks.
abbrev pub StandsAfter : {X : Type 0} → List (Move X) → (tag : ℕ) → (step : ℕ) → Type 0
StandsAfter moves tag step =
    (slice_get moves (step + tag) ≡ Some mark) × (steps_in (take (step + tag) moves) ≡ step)

-- what the step by a move is called, after the moves before it
abbrev pub IsCalled : (earlier : List (Move (List ℕ))) → Move (List ℕ) → StepName → Type 0
IsCalled earlier (name label) called = called ≡ by_label label
IsCalled earlier (again tag) called =
    (number : ℕ) × StandsAfter earlier tag number × (called ≡ by_step number)
IsCalled earlier mark called = ⊥

-- The moves make a row of trees, the last of which derives the expression.
pub record MakeLast (before : List Sentence) (moves : List (Move (List ℕ)))
    (e : Expression) : Type 0 where
  pub rest : Trees
  pub label : List ℕ
  pub below : Trees
  pub kept : List Trees
  pub made : Makes before moves none [] (beside rest (tree label below none)) kept
  pub derived : Derives before label below e

-- The step by a move after these is listed so: it has its name, and the expression that its tree
-- derives.
pub record IsListed (before : List Sentence) (earlier : List (Move (List ℕ)))
    (move : Move (List ℕ)) (step : ListedStep) : Type 0 where
  pub called : IsCalled earlier move step.called
  pub pushed : MakeLast before (earlier ++ move ∷ []) step.expression

-- The steps of the moves are listed, each once and in order: the step by the move at an index has
-- as many steps listed before it as there are steps before that index.
pub record AreListed (before : List Sentence) (moves : List (Move (List ℕ)))
    (steps : List ListedStep) : Type 0 where
  pub count : length steps ≡ steps_in moves
  pub each : (index : ℕ) (move : Move (List ℕ)) (step : ListedStep)
      → slice_get moves index ≡ Some move → is_step move ≡ true
      → slice_get steps (steps_in (take index moves)) ≡ Some step
      → IsListed before (take index moves) move step

-- the name by numbers is the step's name
abbrev pub IsNameOf : List Sentence → Name → StepName → Type 0
IsNameOf statements (names.Label id) called =
    (s : Sentence) × (label : List ℕ) × (slice_get (labelled_sentences statements) id.0 ≡ Some s)
    × IsLabelled label s × (called ≡ by_label label)
IsNameOf statements (names.Step number) called = called ≡ by_step number

-- the line tells the step, by numbers for labels and symbols
pub record TellsStep (statements : List Sentence) (line : Line) (step : ListedStep) : Type 0 where
  pub called : IsNameOf statements line.name step.called
  pub pushed : AreNumbers statements (numbers_in line.expression.items) step.expression

-- The lines are the listing of the moves, made after the statements before.
abbrev pub AreLinesOf : List Sentence → (before : List Sentence) → List (Move (List ℕ))
    → List Line → Type 0
AreLinesOf statements before moves lines =
    (steps : List ListedStep) × AreListed before moves steps
    × AllZip (TellsStep statements) lines steps

-- ---- a listing without all expressions

-- the line tells the step, with its expression, or with none
abbrev pub TellsStepWith : List Sentence → (expressed : Bool) → Line → ListedStep → Type 0
TellsStepWith statements true line step = TellsStep statements line step
TellsStepWith statements false line step =
    IsNameOf statements line.name step.called × (line.expression.items ≡ [])

-- the lines tell the steps, those at the indices that are chosen, from 0 on, with their expressions
pub record TellSteps (statements : List Sentence) (expressed : ℕ → Bool) (lines : List Line)
    (steps : List ListedStep) : Type 0 where
  pub count : length lines ≡ length steps
  pub each : (index : ℕ) (line : Line) (step : ListedStep) → slice_get lines index ≡ Some line
      → slice_get steps index ≡ Some step → TellsStepWith statements (expressed index) line step

-- The lines are the listing of the moves, made after the statements before, with the expressions of
-- those steps alone whose indices are chosen.
abbrev pub AreLinesWith : List Sentence → (before : List Sentence) → List (Move (List ℕ))
    → (expressed : ℕ → Bool) → List Line → Type 0
AreLinesWith statements before moves expressed lines =
    (steps : List ListedStep) × AreListed before moves steps
    × TellSteps statements expressed lines steps
