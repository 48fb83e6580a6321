-- Each move that the tokens say is found where it stands.
use Rattle.std.proofs.lemmas.Option.{none-some}
use Rattle.mm_places.proofs.form_places.said_place.Goals as goal

pub unreachable-requires : goal.unreachable-requires
unreachable-requires c =
    let (before, s, moves, says, less) = c.requires in
    let (token, byte, is) = c.in-None.ensures.said before s moves says less in
    none-some (token, byte) is
