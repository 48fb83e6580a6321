-- One mark more follows.
use Rattle.std.proofs.Common.{false, ◌∷◌}
use Rattle.mm_code.specs.Layout.{texts}
use Rattle.mm_find.specs.Mirror.Marks.{shifted}
use Rattle.mm_find.proofs.Shapes.{shifted_next}
use Rattle.mm_find.proofs.shape.after_one.Goals as goal

pub loop-at-preserved : goal.loop-at-preserved
loop-at-preserved c =
    shifted_next c.args.token.now c.args.symbols.now c.args.marks.now c.loop-at.at _ _
    c.is_before.result c.loop-at.next.items c.push-in-loop-at.new.self.items
    (false ∷ shifted c.args.token.now (texts c.args.symbols.now) c.args.marks.now)
    c.is_before.ensures c.in_ok-push-2.ensures.items c.loop-at-test.true c.requires
    c.loop-at.invariant
