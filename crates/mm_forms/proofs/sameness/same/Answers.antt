use Rattle.mm_forms.proofs.PackedProofs.SubtreeNumbers.{tree_later, no_subtrees, no_rows}
use Rattle.mm_forms.proofs.PackedProofs.SubtreeNumbers.{subtrees_keep, same_trees_made}
use Rattle.mm_forms.proofs.sameness.same.Goals as goal

pub build-requires-clause-nothing : goal.build-requires-clause-nothing
build-requires-clause-nothing c = no_rows _ c.args.book.now.statements c.with_room-table.ensures

pub build-requires-2-clause-nothing : goal.build-requires-2-clause-nothing
build-requires-2-clause-nothing c =
    let a = c.requires.first in
    let t = c.requires.first_makes a.index a.s a.moves a.proof a.numbered in
    no_subtrees _ c.args.book.now.statements (c.in_ok-one.ensures.built a.index a.s a.moves a.proof a.numbered t.0 t.1 t.2).holds.once

pub build-requires-clause-marks : goal.build-requires-clause-marks
build-requires-clause-marks c now stack shelf item rest kept steps label below = subtrees_keep c.args.book.now.statements _ now stack shelf item rest below kept label

pub build-requires-2-clause-marks : goal.build-requires-2-clause-marks
build-requires-2-clause-marks c now stack shelf item rest kept steps label below = subtrees_keep c.args.book.now.statements _ now stack shelf item rest below kept label

pub returns : goal.returns
returns c index s moves proof numbered others also =
    let st = c.args.book.now.statements in
    let makes = c.requires.first_makes index s moves proof numbered in
    let makes' = c.requires.second_makes index s others proof also in
    let both = (c.in_ok-other.ensures.built index s others proof also makes'.0 makes'.1 makes'.2).holds in
    let same = same_trees_made st index c.build-2.new.builder c.in_ok-one.one c.in_ok-other.other moves others c.build.ensures.sound.0 both.once
    (λ label below made. tree_later st _ _ _ label below both.keep (c.in_ok-one.ensures.built index s moves proof numbered label below made).holds.stands.0)
    (λ label below made. (c.in_ok-other.ensures.built index s others proof also label below made).holds.stands.0) makes makes' in
    (λ is. same.0 (c.are_equal.ensures.0 is), λ both. c.are_equal.ensures.1 (same.1 both))
