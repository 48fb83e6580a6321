-- The place of the move is one of those that are listed.
use Rattle.std.proofs.Common.{[], arith}
use Rattle.mm_base.specs.declared.token.Token.{Token}
use Rattle.mm_facts.proofs.FaultPlaces.{listed_place, listed_position}
use Rattle.mm_facts.proofs.step_texts.position_of_move.Goals as goal

pub bounds-tokens-place : goal.bounds-tokens-place
bounds-tokens-place c =
    (listed_place c.args.tokens.now c.args.places.now c.args.index c.requires.room c.requires.places
    c.requires.within).1

pub offset_bounds-tokens-place : goal.offset_bounds-tokens-place
offset_bounds-tokens-place c =
    let place = listed_place c.args.tokens.now c.args.places.now c.args.index c.requires.room
    c.requires.places c.requires.within in
    omega (arith, place.1)

pub position_of-requires-clause-token : goal.position_of-requires-clause-token
position_of-requires-clause-token c =
    (listed_place c.args.tokens.now c.args.places.now c.args.index c.requires.room c.requires.places
    c.requires.within).1

pub position_of-requires-clause-byte : goal.position_of-requires-clause-byte
position_of-requires-clause-byte c =
    (listed_place c.args.tokens.now c.args.places.now c.args.index c.requires.room c.requires.places
    c.requires.within).2

pub returns : goal.returns
returns c =
    let place = listed_place c.args.tokens.now c.args.places.now c.args.index c.requires.room
    c.requires.places c.requires.within in
    let none : Token =
    record { text = record { ref_ptr = (0, 0); now = [] }; file = 0; at = 0 } in
    listed_position c.args.tokens.now c.args.index _ _ _ none place.1 place.0 c.position_of.ensures
