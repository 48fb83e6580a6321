-- The bounds so far.
use Rattle.mm_axioms.specs.Mirror.Rows.{IsPadded}
use Rattle.mm_axioms.proofs.rows.pad.Given as goal

abbrev pub invariant-loop : goal.invariant-loop
invariant-loop l = IsPadded l.fn.bounds.items l.bounds.items l.counter l.bound
