-- One more theorem.
use Rattle.std.proofs.Common.{List, get_or, map, ap}
use Rattle.std.proofs.lemmas.Option.{slice_get-get_or}
use Rattle.mm_base.proofs.Lists.{contains_from_at}
use Rattle.mm_frame.specs.declared.number.LabelId.{LabelId}
use Rattle.mm_frame.proofs.Names.NameNumbers.{get_mapped}
use Rattle.mm_step.specs.Plain.{ids_in}
use Rattle.mm_diff.specs.Mirror.Changes.{plain_dependence}
use Rattle.mm_diff.proofs.FurtherAxioms.{compared_all, compared_first, compared_more}
use Rattle.mm_diff.proofs.FurtherAxioms.{compared_through}
use Rattle.mm_diff.proofs.depends.compare.Goals as goal

pub differing_at-requires-clause-twin : goal.differing_at-requires-clause-twin
differing_at-requires-clause-twin c =
    let ids : List LabelId = c.args.ids.now in
    let x : LabelId = get_or ids c.loop-id.id-index (record { 0 = 0 }) in
    let at = slice_get-get_or ids c.loop-id.id-index (record { 0 = 0 }) c.loop-id-test.true in
    let (former, pair) = c.requires.theorems x.0 (contains_from_at (map (λ (l : LabelId). l.0) ids)
    x.0 (c.loop-id.id-index, get_mapped (λ (l : LabelId). l.0) ids c.loop-id.id-index x at)) in
    (former, (c.requires.side.twins x.0 former).1 pair.0)

pub loop-id-init : goal.loop-id-init
loop-id-init c =
    compared_first c.args.old.now c.args.new.now _ _
    (ap (map plain_dependence) c.new-further.ensures.items)
    (ap (map plain_dependence) c.new-less.ensures.items)

pub loop-id-preserved : goal.loop-id-preserved
loop-id-preserved c =
    let ids : List LabelId = c.args.ids.now in
    let x : LabelId = get_or ids c.loop-id.id-index (record { 0 = 0 }) in
    let at = slice_get-get_or ids c.loop-id.id-index (record { 0 = 0 }) c.loop-id-test.true in
    let (former, pair) = c.requires.theorems x.0 (contains_from_at (map (λ (l : LabelId). l.0) ids)
    x.0 (c.loop-id.id-index, get_mapped (λ (l : LabelId). l.0) ids c.loop-id.id-index x at)) in
    let (order, order_too) =
    c.in_ok-more.ensures former ((c.requires.side.twins x.0 former).1 pair.0) in
    compared_more c.args.old.now c.args.new.now c.requires.meant ids c.loop-id.id-index x
    c.requires.rising at former pair (map plain_dependence c.loop-id.further.items) _
    (map plain_dependence c.loop-id.less.items) _ (ids_in c.in_ok-more.field-0.further.items)
    (ids_in c.in_ok-more.field-0.less.items) c.loop-id.invariant order order_too
    c.in_ok-push_dependence.ensures c.in_ok-push_dependence-2.ensures

pub returns : goal.returns
returns c =
    let told = compared_all c.args.old.now c.args.new.now c.loop-id.further.items
    c.loop-id.less.items (ids_in c.args.ids.now) c.requires.others
    (compared_through c.args.old.now c.args.new.now c.args.ids.now c.loop-id.id-index
    (map plain_dependence c.loop-id.further.items) (map plain_dependence c.loop-id.less.items)
    c.loop-id-test.false c.loop-id.invariant) in
    record { further = told.0; less = told.1 }
