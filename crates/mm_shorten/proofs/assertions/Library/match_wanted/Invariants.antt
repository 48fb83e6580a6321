-- Nothing is put back into the budget.
use Rattle.std.proofs.Common.{◌≤◌}
use Rattle.mm_shorten.proofs.assertions.Library.match_wanted.Given as goal

abbrev pub invariant-loop-goal : goal.invariant-loop-goal
invariant-loop-goal l = l.budget ≤ l.initial.budget
