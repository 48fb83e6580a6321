use Rattle.std.proofs.Common.{take}
use Rattle.mm_frame.specs.Sentence.{Sentence}
use Rattle.mm_frame.specs.Mirror.Layout.{statements_of}
use Rattle.mm_frame.specs.Mirror.Gathered.{AreIndices, AreVariables}
use Rattle.mm_frame.proofs.framing.find_variables.Given as goal

abbrev pub invariant-loop-index : goal.invariant-loop-index
invariant-loop-index l =
    (s : Sentence) → AreIndices (statements_of l.tables) s l.indices → AreVariables (statements_of l.tables) (take l.index-index l.indices) l.variables.items
