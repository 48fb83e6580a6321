use Rattle.std.proofs.Common.{◌≡◌, ◌+◌, ◌++◌, drop, false}
use Rattle.mm_step.specs.Plain.{token_texts}
use Rattle.mm_places.specs.Mirror.CodePlaces.{ends_from}
use Rattle.mm_places.proofs.place_table.push_codes.Given as goal

-- the pieces that are left are listed as all of them are
abbrev pub invariant-loop-piece : goal.invariant-loop-piece
invariant-loop-piece l = record {
  count : l.token ≡ l.first + l.piece-index;
  places : l.fn.places.items ++ ends_from l.first false (token_texts l.pieces)
      ≡ l.places.items ++ ends_from l.token l.inside (token_texts (drop l.piece-index l.pieces));
}
