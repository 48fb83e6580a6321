-- The words so far were looked at.
use Rattle.mm_axioms.proofs.WordSets.{IsFound}
use Rattle.mm_axioms.proofs.bits.is_within.Given as goal

abbrev pub invariant-loop-other : goal.invariant-loop-other
invariant-loop-other l = IsFound l.row l.others l.found l.other-index
