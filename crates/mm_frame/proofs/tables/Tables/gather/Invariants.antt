use Rattle.mm_frame.specs.Mirror.Layout.{statements_of}
use Rattle.mm_frame.specs.Mirror.Separated.{ArePaired}
use Rattle.mm_frame.proofs.tables.Tables.gather.Given as goal

abbrev pub invariant-loop-j : goal.invariant-loop-j
invariant-loop-j l = ArePaired (statements_of l.self) l.members l.i l.j l.pairs.items
