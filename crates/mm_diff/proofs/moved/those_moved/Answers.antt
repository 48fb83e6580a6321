-- The places are those of the shared assertions.
use Rattle.std.proofs.Common.{sym}
use Rattle.std.proofs.lemmas.Result.{IfOk-weaker}
use Rattle.std.proofs.lemmas.Slice.Zip.{AllZip-long}
use Rattle.mm_frame.specs.declared.number.LabelId.{LabelId}
use Rattle.mm_step.specs.Plain.{ids_in}
use Rattle.mm_diff.specs.Mirror.Changes.{StandsAt}
use Rattle.mm_diff.proofs.MovedPlaces.{moved_told}
use Rattle.mm_diff.proofs.moved.those_moved.Goals as goal

pub old_places-requires-clause-before : goal.old_places-requires-clause-before
old_places-requires-clause-before c = rw c.deref.ensures.value c.in_ok-before.ensures

pub old_places-requires-clause-ids : goal.old_places-requires-clause-ids
old_places-requires-clause-ids c = rw c.deref-2.ensures.value c.in_ok-ids.ensures

pub moved_among-requires-clause-length : goal.moved_among-requires-clause-length
moved_among-requires-clause-length c =
    let stand = rw (c.deref.ensures.value, c.deref-2.ensures.value) at c.in_ok-places.ensures in
    rw (c.deref-3.ensures.value, c.deref-4.ensures.value)
    (sym (AllZip-long (λ (id : LabelId) place. StandsAt c.args.old.now.statements
    c.args.new.now.statements (ids_in c.in_ok-before.before.items) id.0 place)
    c.in_ok-ids.ids.items c.in_ok-places.places.items stand))

pub returns : goal.returns
returns c =
    let stand = rw (c.deref.ensures.value, c.deref-2.ensures.value) at c.in_ok-places.ensures in
    IfOk-weaker c.moved_among.result _ _
    (λ those told. moved_told c.args.old.now.statements c.args.new.now.statements
    c.requires.old_meant (ids_in c.in_ok-before.before.items) c.in_ok-ids.ids.items
    c.in_ok-places.places.items c.in_ok-before.ensures c.in_ok-ids.ensures stand
    c.requires.new_meant (ids_in those.items) told)
    (rw (c.deref-3.ensures.value, c.deref-4.ensures.value) at c.moved_among.ensures)
