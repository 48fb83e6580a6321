-- Where the moves of a proof stop, and what stands on the stack there (the Metamath book, sections
-- 4.1.4, 4.3 and 4.4.3, appendix B). What is told of it is this project's own.
use Rattle.std.specs.Prelude.{◌≡◌, ℕ, ◌+◌, ◌-◌, ◌<◌, List, [], ◌∷◌, ◌++◌, length, slice_get, Some}
use Rattle.std.specs.Prelude.{Bool, true, false, Option, None, ◌⊎◌}
use Rattle.std.specs.List.{AllZip}
use Rattle.mm_frame.specs.Sentence.{Sentence}
use Rattle.mm_frame.specs.Numbers.{AreNumbers}
use Rattle.mm_step.specs.declared.fault.ProofRule.{ProofRule}
use Rattle.mm_listing.specs.declared.halt.Halt.{Halt}
use Rattle.mm_listing.specs.declared.halt.HaltAt.{HaltAt}
use Rattle.mm_listing.specs.declared.halt.HaltAt.TheVariants as at
use Rattle.mm_step.specs.Substitution.{Expression}
use Rattle.mm_step.specs.Moves.{Move, name, again, mark, is_step, steps_in}
use Rattle.mm_step.specs.Proof.{IsWithin, Passed, FirstAtMove}
use Rattle.mm_proof.specs.Proof.{BreaksEnd}
use Rattle.mm_step.specs.Steps.{IsNumberedMove}
use Rattle.mm_listing.specs.Listing.{ListedStep, AreListed}

-- the moves passed, and left so many entries on the stack
abbrev pub LeaveEntries : (Expression → Type 0) → List Sentence → List (Move (List ℕ)) → ℕ → Type 0
LeaveEntries Fits before moves count =
    (stack : List Expression) × (kept : List Expression) × Passed Fits before moves stack kept
    × (length stack ≡ count)

-- The step with a number, from 1 on, made the entry at an index of the stack, from 0 on: after it
-- that entry was the last one, and after each step since there have been more.
pub record IsMadeBy (Fits : Expression → Type 0) (before : List Sentence)
    (moves : List (Move (List ℕ))) (index step : ℕ) : Type 0 where
  pub earlier : List (Move (List ℕ))
  pub move : Move (List ℕ)
  pub later : List (Move (List ℕ))
  pub parts : moves ≡ earlier ++ move ∷ later
  pub step_made : is_step move ≡ true
  pub number : step ≡ steps_in earlier + 1
  pub last : LeaveEntries Fits before (earlier ++ move ∷ []) (index + 1)
  pub since :
      (some more : List (Move (List ℕ))) → later ≡ some ++ more → 0 < steps_in some
      → (count : ℕ) × LeaveEntries Fits before (earlier ++ move ∷ some) count × (index + 1 < count)

-- The entries of the stack that the moves left, the lowest first, were made by the steps with these
-- numbers, and each is what that step is listed with.
pub record AreOrigins (Fits : Expression → Type 0) (before : List Sentence)
    (moves : List (Move (List ℕ))) (stack : List Expression) (origins : List ℕ) : Type 0 where
  pub count : length origins ≡ length stack
  pub each : (index step : ℕ) → slice_get origins index ≡ Some step
      → IsMadeBy Fits before moves index step
  pub given : (steps : List ListedStep) → AreListed before moves steps
      → (index step : ℕ) → slice_get origins index ≡ Some step
      → (l : ListedStep) × (slice_get steps (step - 1) ≡ Some l)
      × (slice_get stack index ≡ Some l.expression)

-- Why the moves that are left don't pass, on this stack: the first of them breaks the rule first; or
-- none is left, and what a whole proof leaves breaks it. No rule: none is left, and a whole proof
-- leaves only the statement's expression.
abbrev pub StopsWith : (Expression → Type 0) → List Sentence → Sentence → (prefix : Bool)
    → (stack kept : List Expression) → (left : List (Move (List ℕ))) → Option ProofRule → Type 0
StopsWith Fits before s prefix stack kept [] (Some rule) =
    (prefix ≡ false) × BreaksEnd rule stack s.symbols
StopsWith Fits before s prefix stack kept [] None =
    (prefix ≡ true) ⊎ (stack ≡ s.symbols ∷ [])
StopsWith Fits before s prefix stack kept (move ∷ more) (Some rule) =
    FirstAtMove Fits rule before stack kept move
StopsWith Fits before s prefix stack kept (move ∷ more) None = ⊥

-- what stands at the place, where these moves are left
abbrev pub StandsAtHalt : List Sentence → List (Move (List ℕ)) → HaltAt → Type 0
StandsAtHalt statements [] halted = halted ≡ at.End
StandsAtHalt statements (name label ∷ more) (at.Label id) =
    IsNumberedMove statements (name id.0) (name label)
StandsAtHalt statements (again tag ∷ more) (at.Tag halted) = halted ≡ tag
StandsAtHalt statements (mark ∷ more) at.Mark = Unit {0}
StandsAtHalt statements moves halted = ⊥

-- The moves of a proof, or of a prefix of one, of the `$p` stop so: those before some place passed,
-- and left this stack, whose entries these steps made; and this is why no more pass.
pub record Halts (Fits : Expression → Type 0) (before : List Sentence) (s : Sentence)
    (prefix : Bool) (moves : List (Move (List ℕ))) (rule : Option ProofRule) : Type 0 where
  pub earlier : List (Move (List ℕ))
  pub left : List (Move (List ℕ))
  pub parts : moves ≡ earlier ++ left
  pub stack : List Expression
  pub kept : List Expression
  pub passed : Passed Fits before earlier stack kept
  pub origins : List ℕ
  pub made : AreOrigins Fits before earlier stack origins
  pub stops : StopsWith Fits before s prefix stack kept left rule

-- that is where they stop, by numbers for labels and symbols
pub record HaltsProof (limit : ℕ) (statements : List Sentence) (before : List Sentence)
    (s : Sentence) (prefix : Bool) (moves : List (Move (List ℕ))) (halt : Halt) : Type 0 where
  pub there : Halts (IsWithin limit) before s prefix moves halt.rule
  pub count : halt.passed ≡ length there.earlier
  pub steps : halt.steps ≡ steps_in there.earlier
  pub same_origins : halt.origins.items ≡ there.origins
  pub entries : AllZip (AreNumbers statements) halt.entries there.stack
  pub place : StandsAtHalt statements there.left halt.at

-- wherever the moves of a proof stop so, these are the numbers of the entry at an index of the
-- stack that is left
abbrev pub TellsEntry : Halt → (index : ℕ) → (numbers : List ℕ) → Type 0
TellsEntry halt index numbers =
    (limit : ℕ) (statements before : List Sentence) (s : Sentence) (prefix : Bool)
    (moves : List (Move (List ℕ)))
    → (h : HaltsProof limit statements before s prefix moves halt)
    → (e : Expression) × (slice_get h.there.stack index ≡ Some e)
    × AreNumbers statements numbers e
