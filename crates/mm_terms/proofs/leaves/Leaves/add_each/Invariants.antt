-- Nothing is put back into the budget.
use Rattle.std.proofs.Common.{◌≤◌}
use Rattle.mm_terms.proofs.leaves.Leaves.add_each.Given as goal

abbrev pub invariant-loop-term : goal.invariant-loop-term
invariant-loop-term l = l.budget ≤ l.initial.budget
