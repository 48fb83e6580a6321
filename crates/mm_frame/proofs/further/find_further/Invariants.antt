use Rattle.mm_frame.specs.Pieces.{variables_of}
use Rattle.mm_frame.specs.Mirror.Further.{AreFoundFurther}
use Rattle.mm_frame.specs.Mirror.Layout.{statements_of}
use Rattle.mm_frame.proofs.further.find_further.Given as goal

abbrev pub invariant-loop-index : goal.invariant-loop-index
invariant-loop-index l =
    AreFoundFurther (statements_of l.tables) (variables_of l.hypotheses) l.at l.index
    l.indices.items
