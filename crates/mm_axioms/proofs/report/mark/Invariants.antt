-- The numbers so far are marked.
use Rattle.std.proofs.Common.{map, take}
use Rattle.mm_axioms.proofs.Resting.RestsOn.{IsMarkedBy}
use Rattle.mm_axioms.proofs.report.mark.Given as goal

abbrev pub invariant-loop-number : goal.invariant-loop-number
invariant-loop-number l = IsMarkedBy l.fn.marks l.marks (map (λ id. id.0) (take l.number-index l.numbers))
