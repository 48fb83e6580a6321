-- Nothing is put back into the budget.
use Rattle.std.proofs.Common.{◌≤◌}
use Rattle.mm_patterns.proofs.size.Sizes.count_nodes.Given as goal

abbrev pub invariant-loop-index : goal.invariant-loop-index
invariant-loop-index l = l.budget ≤ l.initial.budget
