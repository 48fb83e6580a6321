-- Those that differ among the numbers so far.
use Rattle.std.proofs.Common.{◌<◌, map}
use Rattle.mm_rules.specs.Rests.{AreInOrder}
use Rattle.mm_alike.specs.Mirror.Differences.{Differs}
use Rattle.mm_alike.proofs.differences.those_that_differ.Given as goal

abbrev pub invariant-loop-number : goal.invariant-loop-number
invariant-loop-number l =
    AreInOrder (λ n. (n < l.number)
    × Differs l.difference l.book.statements l.other.statements n) (map (λ x. x.0) l.those.items)
