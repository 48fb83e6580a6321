-- The marks of the numbers so far.
use Rattle.mm_diff.proofs.StayingTheorems.{AreMarksTo}
use Rattle.mm_diff.proofs.stays.those_that_stay.Given as goal

abbrev pub invariant-loop-number : goal.invariant-loop-number
invariant-loop-number l = AreMarksTo l.new l.old l.twins l.number l.marks.items
