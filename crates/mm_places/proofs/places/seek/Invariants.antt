use Rattle.std.proofs.Common.{◌≡◌, drop}
use Rattle.mm_places.specs.Mirror.CodePlaces.{sought}
use Rattle.mm_places.proofs.places.seek.Given as goal

-- the bytes that are left are sought as the whole piece is
abbrev pub invariant-loop-index : goal.invariant-loop-index
invariant-loop-index l =
    sought 0 l.codes l.digits l.piece ≡ sought l.index l.left l.inside (drop l.index l.piece)
