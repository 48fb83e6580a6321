-- How the steps of a proof are listed with their letters, code after code: it mirrors the code.
use Rattle.std.specs.Prelude.{◌≡◌, ℕ, ◌+◌, List, [], ◌∷◌, ◌++◌, length, slice_get, Some}
use Rattle.std.specs.List.{before_first}
use Rattle.mm_code.specs.declared.code.Code.{Code}
use Rattle.mm_code.specs.declared.code.Code.TheVariants.{Number, Tag}
use Rattle.mm_code.specs.Letters.{SpellsCodes}
use Rattle.mm_places.specs.declared.letters.StepLetters.{StepLetters}
use Rattle.mm_places.specs.StepLetters.{is_number}

-- the steps of the codes from an index on, in order
abbrev pub AreStepsFrom : (index : ℕ) → List Code → List StepLetters → Type 0
AreStepsFrom index [] steps = steps ≡ []
AreStepsFrom index (Number value ∷ later) steps =
    (step : StepLetters) × (rest : List StepLetters) × (steps ≡ step ∷ rest)
    × (step.index ≡ index)
    × SpellsCodes step.letters.items (Number value ∷ before_first is_number later)
    × AreStepsFrom (index + 1) later rest
AreStepsFrom index (Tag ∷ later) steps = AreStepsFrom (index + 1) later steps

-- that of the first of these codes, which has an index, was added, where it is that of a step
abbrev pub AddsStep : (index : ℕ) → List Code → (old new : List StepLetters) → Type 0
AddsStep index [] old new = new ≡ old
AddsStep index (Number value ∷ later) old new =
    (step : StepLetters) × (new ≡ old ++ step ∷ []) × (step.index ≡ index)
    × SpellsCodes step.letters.items (Number value ∷ before_first is_number later)
AddsStep index (Tag ∷ later) old new = new ≡ old

-- the steps of so many labels of a normal proof
pub record AreLabelSteps (count : ℕ) (steps : List StepLetters) : Type 0 where
  pub many : length steps ≡ count
  pub each : (n : ℕ) (step : StepLetters) → slice_get steps n ≡ Some step
      → (step.index ≡ n) × (step.letters.items ≡ [])
