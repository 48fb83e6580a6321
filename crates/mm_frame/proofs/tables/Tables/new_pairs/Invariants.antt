use Rattle.mm_frame.specs.Mirror.Layout.{statements_of}
use Rattle.mm_frame.specs.Mirror.Separated.{ArePaired}
use Rattle.mm_frame.proofs.tables.Tables.new_pairs.Given as goal

abbrev pub invariant-loop-i : goal.invariant-loop-i
invariant-loop-i l = ArePaired (statements_of l.self) l.members l.i 0 l.pairs.items
