-- One mark more follows.
use Rattle.mm_find.proofs.Shapes.{first_next}
use Rattle.mm_find.proofs.shape.first_marks.Goals as goal

pub loop-symbol-preserved : goal.loop-symbol-preserved
loop-symbol-preserved c =
    first_next c.args.symbols.now c.loop-symbol._symbol-index c.loop-symbol.marks.items
    c.push-in-loop-symbol.new.self.items c.loop-symbol-test.true c.loop-symbol.invariant
    c.in_ok-push-2.ensures.items
