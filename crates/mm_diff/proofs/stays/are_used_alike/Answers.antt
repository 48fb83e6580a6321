-- One more.
use Rattle.std.proofs.Common.{◌<◌, length, arith}
use Rattle.mm_diff.proofs.StayingTheorems.{alike_more}
use Rattle.mm_diff.proofs.stays.are_used_alike.Goals as goal

pub loop-at-preserved : goal.loop-at-preserved
loop-at-preserved c =
    let within : c.loop-at.at < length c.args.others.now = omega arith in
    alike_more c.args.twins.now c.args.marks.now c.args.used.now c.args.others.now c.loop-at.at _
    c.loop-at-test.true within c.loop-at.invariant
    (c.is_used_alike.ensures c.if-not-is_used_alike.false)
