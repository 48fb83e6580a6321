-- Nothing is put back into the budget.
use Rattle.std.proofs.Common.{◌≤◌}
use Rattle.mm_lemma_search.proofs.gathered.Search.find.Given as goal

abbrev pub invariant-loop : goal.invariant-loop
invariant-loop g l = l.budget ≤ l.initial.budget
