use Rattle.std.proofs.Common.{take}
use Rattle.mm_frame.specs.Pieces.{variables_of}
use Rattle.mm_frame.specs.Mirror.Patterned.{AreNoted}
use Rattle.mm_frame.proofs.noted.NotedIndices.note.Given as goal

abbrev pub invariant-loop-index : goal.invariant-loop-index
invariant-loop-index l = AreNoted l.self.indices.items (variables_of (take l.index l.hypotheses))
