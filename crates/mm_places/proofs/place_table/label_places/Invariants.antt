use Rattle.std.proofs.Common.{◌≡◌}
use Rattle.mm_places.specs.Mirror.CodePlaces.{labels_before}
use Rattle.mm_places.proofs.place_table.label_places.Given as goal

abbrev pub invariant-loop-token : goal.invariant-loop-token
invariant-loop-token l = l.places.items ≡ labels_before l.token
