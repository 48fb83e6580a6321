-- One mark more follows.
use Rattle.std.proofs.Common.{false}
use Rattle.mm_find.specs.Mirror.Marks.{spread}
use Rattle.mm_find.proofs.Shapes.{spread_next}
use Rattle.mm_find.proofs.shape.after_any.Goals as goal

pub loop-mark-preserved : goal.loop-mark-preserved
loop-mark-preserved c =
    spread_next c.args.marks.now c.loop-mark.mark-index _ c.loop-mark.any c.is_after-any.result
    c.loop-mark.next.items c.push.new.self.items (spread false c.args.marks.now)
    c.is_after-any.ensures c.in_ok-push.ensures.items c.loop-mark-test.true c.loop-mark.invariant
