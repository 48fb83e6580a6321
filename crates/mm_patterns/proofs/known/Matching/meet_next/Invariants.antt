-- Nothing is put back into the budget.
use Rattle.std.proofs.Common.{◌≤◌}
use Rattle.mm_patterns.proofs.known.Matching.meet_next.Given as goal

abbrev pub invariant-loop-at : goal.invariant-loop-at
invariant-loop-at l = l.budget ≤ l.initial.budget
