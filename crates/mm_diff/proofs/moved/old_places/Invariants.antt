-- The places so far.
use Rattle.std.proofs.Common.{map, take}
use Rattle.std.specs.List.{AllZip}
use Rattle.mm_diff.specs.Mirror.Changes.{StandsAt}
use Rattle.mm_diff.proofs.moved.old_places.Given as goal

abbrev pub invariant-loop-id : goal.invariant-loop-id
invariant-loop-id l =
    AllZip (λ id place. StandsAt l.old.statements l.new.statements (map (λ x. x.0) l.before) id.0
    place) (take l.id-index l.ids) l.places.items
