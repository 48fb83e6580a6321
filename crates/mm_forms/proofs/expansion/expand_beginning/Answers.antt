use Rattle.std.proofs.Common.{arith}
use Rattle.mm_forms.proofs.TreeBuilding.TreeWords.{length_keep, labels_keep, unless_memory}
use Rattle.mm_forms.proofs.expansion.expand_beginning.Goals as goal

pub build_row-requires-clause-marks : goal.build_row-requires-clause-marks
build_row-requires-clause-marks c now = length_keep _ now

pub returns-in_err-build_row-clause-within : goal.returns-in_err-build_row-clause-within
returns-in_err-build_row-clause-within c index s moves proof numbered row makes few =
    unless_memory c.from_residual.result _ c.from_residual.ensures.1 (λ long.
    let over = c.in_err-build_row.ensures.long long index s moves proof numbered row makes in
    absurd (omega arith))

pub build_row-requires-2-clause-marks : goal.build_row-requires-2-clause-marks
build_row-requires-2-clause-marks c now = labels_keep c.args.book.now.statements now.items

pub returns-clause-spelled : goal.returns-clause-spelled
returns-clause-spelled c index s moves proof numbered row makes =
    (c.in_ok-build_row-2.ensures.built index s moves proof numbered row makes).holds.labels_are

pub returns-clause-over : goal.returns-clause-over
returns-clause-over c index s moves proof numbered row makes over =
    let h = (c.in_ok-build_row.ensures.built index s moves proof numbered row makes).holds in
    let count = h.count in
    let within = h.within in
    let same = h.same in
    absurd (omega arith)
