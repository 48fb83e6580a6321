-- One entry more.
use Rattle.std.proofs.Common.{◌<◌, length, arith}
use Rattle.mm_alike.proofs.SharedTrees.{entries_more}
use Rattle.mm_alike.proofs.moves.are_same_entries.Goals as goal

pub loop-at-preserved : goal.loop-at-preserved
loop-at-preserved c =
    let within : c.loop-at.at < length c.args.others.now = omega arith in
    entries_more c.args.old.now.statements c.args.new.now.statements c.args.entries.now
    c.args.others.now c.loop-at.at _ c.loop-at-test.true within c.loop-at.invariant
    (c.is_same_step.ensures.0 c.if-not-is_same_step.false)
