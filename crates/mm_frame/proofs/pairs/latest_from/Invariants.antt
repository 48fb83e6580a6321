use Rattle.mm_frame.proofs.DistinctPairs.AddedPairs.{IsLeft}
use Rattle.mm_frame.proofs.pairs.latest_from.Given as goal

abbrev pub invariant-loop : goal.invariant-loop
invariant-loop l = IsLeft l.spans l.fn.newest l.next l.before l.counter
