-- The proofs from the last one down to this index were passed.
use Rattle.std.proofs.Common.{◌-◌, length}
use Rattle.mm_axioms.proofs.Resting.RestsOn.{IsMarking}
use Rattle.mm_axioms.proofs.report.reach.Given as goal

abbrev pub invariant-loop-step : goal.invariant-loop-step
invariant-loop-step l = IsMarking l.kept l.theorem.0 (length l.kept - l.step) l.marks.items
