use Rattle.std.proofs.Common.{◌≡◌, drop, false}
use Rattle.mm_step.specs.Plain.{token_texts}
use Rattle.mm_places.specs.Mirror.CodePlaces.{place_in}
use Rattle.mm_places.proofs.places.code_place.Given as goal

-- the pieces that are left are gone through as all of them are
abbrev pub invariant-loop-index : goal.invariant-loop-index
invariant-loop-index l =
    place_in 0 l.number false (token_texts l.pieces)
    ≡ place_in l.index l.left l.inside (token_texts (drop l.index l.pieces))
