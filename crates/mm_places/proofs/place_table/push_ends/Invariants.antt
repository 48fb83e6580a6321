use Rattle.std.proofs.Common.{◌≡◌, ◌++◌, map, drop}
use Rattle.mm_places.specs.Mirror.CodePlaces.{ends, behind}
use Rattle.mm_places.proofs.place_table.push_ends.Given as goal

-- the bytes that are left end codes as the whole piece does
abbrev pub invariant-loop-index : goal.invariant-loop-index
invariant-loop-index l = record {
  places : l.fn.places.items ++ map (λ byte. (l.token, byte)) (ends 0 l.digits l.text)
      ≡ l.places.items
      ++ map (λ byte. (l.token, byte)) (ends l.index l.inside (drop l.index l.text));
  digits : behind 0 l.digits l.text ≡ behind l.index l.inside (drop l.index l.text);
}
