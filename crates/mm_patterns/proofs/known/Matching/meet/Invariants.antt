-- Nothing is put back into the budget.
use Rattle.std.proofs.Common.{◌≤◌}
use Rattle.mm_patterns.proofs.known.Matching.meet.Given as goal

abbrev pub invariant-loop : goal.invariant-loop
invariant-loop l = l.budget ≤ l.initial.budget
