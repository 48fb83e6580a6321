-- One label more.
use Rattle.std.proofs.Common.{◌<◌, length, arith}
use Rattle.mm_alike.proofs.KeptWidths.{labels_more}
use Rattle.mm_alike.proofs.written.have_same_labels.Goals as goal

pub loop-at-preserved : goal.loop-at-preserved
loop-at-preserved c =
    let within : c.loop-at.at < length c.args.others.now = omega arith in
    labels_more c.args.book.now.statements c.args.other.now.statements c.args.hypotheses.now
    c.args.others.now c.loop-at.at _ c.loop-at-test.true within c.loop-at.invariant
    (c.is_same_step.ensures.0 c.if-not-is_same_step.false)
