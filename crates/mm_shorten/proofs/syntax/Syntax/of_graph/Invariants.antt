-- Nothing is put back into the budget.
use Rattle.std.proofs.Common.{◌≤◌}
use Rattle.mm_shorten.proofs.syntax.Syntax.of_graph.Given as goal

abbrev pub invariant-loop-conclusion : goal.invariant-loop-conclusion
invariant-loop-conclusion l = l.budget ≤ l.initial.budget
