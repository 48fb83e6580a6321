-- Those that were moved among the indices so far.
use Rattle.std.proofs.Common.{map}
use Rattle.mm_diff.specs.Mirror.Changes.{IsMovedAt}
use Rattle.mm_diff.proofs.MovedPlaces.{AreTakenBefore}
use Rattle.mm_diff.proofs.moved.moved_among.Given as goal

abbrev pub invariant-loop-at : goal.invariant-loop-at
invariant-loop-at l =
    AreTakenBefore (IsMovedAt l.places) (map (λ x. x.0) l.ids) l.at (map (λ x. x.0) l.moved.items)
