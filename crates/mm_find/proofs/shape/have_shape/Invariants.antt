-- The marks are those of the tokens so far.
use Rattle.std.proofs.Common.{[], take}
use Rattle.mm_code.specs.Layout.{texts}
use Rattle.mm_find.specs.Mirror.Marks.{AreMarks}
use Rattle.mm_find.proofs.shape.have_shape.Given as goal

abbrev pub invariant-loop-token : goal.invariant-loop-token
invariant-loop-token l =
    AreMarks (texts (take l.token-index l.shape)) [] (texts l.symbols) l.marks.items
