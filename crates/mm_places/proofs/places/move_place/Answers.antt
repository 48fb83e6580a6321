-- Each move that the tokens say has a place, where it is found; so has each move of the known
-- prefix.
use Rattle.mm_step.specs.Plain.{token_texts}
use Rattle.mm_proof.specs.CheckedPrefix.{checked_prefix}
use Rattle.mm_places.proofs.ProofPlaces.SomePlaces.{some_place, known_place}
use Rattle.mm_places.proofs.places.move_place.Goals as goal

pub returns-clause-said : goal.returns-clause-said
returns-clause-said c before s moves says less =
    let (token, byte, it) =
    some_place before s (token_texts c.args.tokens.now) moves c.args.number says less in
    (token, byte, c.place_of.ensures.found token byte it)

pub returns-clause-known : goal.returns-clause-known
returns-clause-known c token byte it =
    c.place_of.ensures.found token byte
    (known_place (token_texts c.args.tokens.now) c.args.number token byte it)

pub returns-clause-known_said : goal.returns-clause-known_said
returns-clause-known_said c before s moves says less =
    let (token, byte, it) =
    some_place before s (checked_prefix (token_texts c.args.tokens.now)) moves c.args.number says less in (
      token,
      byte,
      c.place_of.ensures.found token byte
          (known_place (token_texts c.args.tokens.now) c.args.number token byte it),
    )
