use Rattle.mm_places.proofs.ProofPlaces.StepLetters.{GoOn}
use Rattle.mm_places.proofs.letters.steps_of.Given as goal

-- the steps so far and those of the codes that are left are all
abbrev pub invariant-loop-index : goal.invariant-loop-index
invariant-loop-index l = GoOn l.codes l.index l.steps.items
