-- The table of the numbers so far.
use Rattle.mm_diff.proofs.OneAssertions.{AreTwinsTo}
use Rattle.mm_diff.proofs.twins.twins_of.Given as goal

abbrev pub invariant-loop-number : goal.invariant-loop-number
invariant-loop-number l =
    AreTwinsTo l.book.statements l.other.statements l.number l.twins.items
