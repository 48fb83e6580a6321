use Rattle.std.proofs.Common.{arith}
use Rattle.mm_forms.proofs.TreeBuilding.TreeWords.{length_keep, labels_keep, unless_memory}
use Rattle.mm_forms.proofs.expansion.expand.Goals as goal

pub build-requires-clause-marks : goal.build-requires-clause-marks
build-requires-clause-marks c now = length_keep _ now

pub build-requires-2-clause-marks : goal.build-requires-2-clause-marks
build-requires-2-clause-marks c now = labels_keep c.args.book.now.statements now.items

pub returns-in_err-build-clause-within : goal.returns-in_err-build-clause-within
returns-in_err-build-clause-within c index s moves proof numbered label below makes few =
    unless_memory c.from_residual.result _ c.from_residual.ensures.1 (λ long. let over = c.in_err-build.ensures.long long index s moves proof numbered label below makes in absurd (omega arith))

pub returns-clause-spelled : goal.returns-clause-spelled
returns-clause-spelled c index s moves proof numbered label below makes = (c.in_ok-build-2.ensures.built index s moves proof numbered label below makes).holds.labels_are

pub returns-clause-over : goal.returns-clause-over
returns-clause-over c index s moves proof numbered label below makes over =
    let h = (c.in_ok-build.ensures.built index s moves proof numbered label below makes).holds in
    let count = h.count in
    let within = h.within in
    let same = h.same in
    absurd (omega arith)
