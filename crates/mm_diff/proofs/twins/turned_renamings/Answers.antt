-- One more, with its numbers exchanged.
use Rattle.mm_diff.proofs.OneAssertions.{turned_more}
use Rattle.mm_diff.proofs.twins.turned_renamings.Goals as goal

pub loop-renaming-preserved : goal.loop-renaming-preserved
loop-renaming-preserved c =
    turned_more c.args.renamed.now c.loop-renaming.those.items _ c.loop-renaming.renaming-index _
    c.loop-renaming-test.true c.loop-renaming.invariant c.in_ok-push.ensures.items
