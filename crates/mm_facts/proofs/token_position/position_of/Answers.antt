-- The position of the token, and so many bytes more.
use Rattle.std.proofs.Common.{[], refl}
use Rattle.mm_base.specs.declared.token.Token.{Token}
use Rattle.mm_facts.proofs.FaultPlaces.{position_there}
use Rattle.mm_facts.proofs.token_position.position_of.Goals as goal

pub returns : goal.returns
returns c =
    let none : Token =
    record { text = record { ref_ptr = (0, 0); now = [] }; file = 0; at = 0 } in
    position_there c.args.placed.now c.args.place.0 c.args.place.1 _ none c.requires.token refl
