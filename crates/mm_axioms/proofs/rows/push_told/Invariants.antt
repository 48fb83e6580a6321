-- The numbers of the bits so far.
use Rattle.mm_axioms.proofs.Resting.RowNumbers.{AreToldTo}
use Rattle.mm_axioms.proofs.rows.push_told.Given as goal

abbrev pub invariant-loop-bit : goal.invariant-loop-bit
invariant-loop-bit l = AreToldTo l.numbers l.word l.fn.out.items l.out.items l.bit
