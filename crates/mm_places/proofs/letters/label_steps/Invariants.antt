use Rattle.mm_places.specs.Mirror.CodeLetters.{AreLabelSteps}
use Rattle.mm_places.proofs.letters.label_steps.Given as goal

-- so many labels are listed
abbrev pub invariant-loop-index : goal.invariant-loop-index
invariant-loop-index l = AreLabelSteps l.index l.steps.items
