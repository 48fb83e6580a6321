-- One more place.
use Rattle.std.proofs.Common.{List, get_or, map}
use Rattle.std.proofs.lemmas.Option.{slice_get-get_or}
use Rattle.mm_base.proofs.Lists.{contains_from_at}
use Rattle.mm_frame.specs.declared.number.LabelId.{LabelId}
use Rattle.mm_frame.proofs.Names.NameNumbers.{get_mapped}
use Rattle.mm_diff.specs.Mirror.Changes.{StandsAt}
use Rattle.mm_diff.proofs.MovedPlaces.{places_more}
use Rattle.mm_diff.proofs.moved.old_places.Goals as goal

pub old_place-requires-clause-id : goal.old_place-requires-clause-id
old_place-requires-clause-id c =
    let ids : List LabelId = c.args.ids.now in
    let x : LabelId = get_or ids c.loop-id.id-index (record { 0 = 0 }) in
    let at = slice_get-get_or ids c.loop-id.id-index (record { 0 = 0 }) c.loop-id-test.true in
    (c.requires.ids.each x.0).0 (contains_from_at (map (λ (l : LabelId). l.0) ids) x.0
    (c.loop-id.id-index, get_mapped (λ (l : LabelId). l.0) ids c.loop-id.id-index x at))

pub loop-id-preserved : goal.loop-id-preserved
loop-id-preserved c =
    places_more (λ id place. StandsAt c.args.old.now.statements c.args.new.now.statements
    (map (λ (l : LabelId). l.0) c.args.before.now) id.0 place) c.args.ids.now c.loop-id.places.items _
    c.loop-id.id-index c.old_place.result (record { 0 = 0 }) c.loop-id-test.true c.loop-id.invariant
    c.old_place.ensures c.in_ok-push.ensures.items
