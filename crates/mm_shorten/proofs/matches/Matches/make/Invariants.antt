-- Nothing is put back into the budget.
use Rattle.std.proofs.Common.{◌≤◌}
use Rattle.mm_shorten.proofs.matches.Matches.make.Given as goal

abbrev pub invariant-loop : goal.invariant-loop
invariant-loop l = l.budget ≤ l.initial.budget
