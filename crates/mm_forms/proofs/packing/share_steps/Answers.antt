-- The steps that were built are those of the fully shared proof of the tree.
use Rattle.std.proofs.Common.{arith}
use Rattle.std.proofs.lemmas.Slice.Zip.{AllZip-long}
use Rattle.mm_step.specs.Steps.{IsNumberedMove}
use Rattle.mm_forms.proofs.PackedProofs.PackingLoops.{shared_keep, steps_end}
use Rattle.mm_forms.proofs.packing.share_steps.Goals as goal

pub build-requires-clause-marks : goal.build-requires-clause-marks
build-requires-clause-marks c now = shared_keep _ now c.args.book.now.statements

pub returns-in-Ok-clause-shared : goal.returns-in-Ok-clause-shared
returns-in-Ok-clause-shared c index s moves proof numbered label below makes =
    let st = c.args.book.now.statements in
    let built = rw c.in-Ok.is at c.build.ensures.built in
    let all = (built index s moves proof numbered label below makes).holds in
    steps_end st _ _ _ _ _ (all.shared c.build.ensures.sound.0)

pub returns-in-Ok-clause-once : goal.returns-in-Ok-clause-once
returns-in-Ok-clause-once c =
    let a = c.requires.steps in
    let t = c.requires.makes a.index a.s a.moves a.proof a.numbered in
    let built = rw c.in-Ok.is at c.build.ensures.built in
    (built a.index a.s a.moves a.proof a.numbered t.0 t.1 t.2).holds.subtrees.once

pub returns-in-Ok-clause-few : goal.returns-in-Ok-clause-few
returns-in-Ok-clause-few c =
    let a = c.requires.steps in
    let t = c.requires.makes a.index a.s a.moves a.proof a.numbered in
    let all = rw c.in-Ok.is at c.build.ensures.built in
    let built = all a.index a.s a.moves a.proof a.numbered t.0 t.1 t.2 in
    let long = AllZip-long (IsNumberedMove c.args.book.now.statements) c.args.steps.now.moves a.moves
    a.numbered in
    omega (arith, built.holds.few, built.few, long, c.build.ensures.few)
