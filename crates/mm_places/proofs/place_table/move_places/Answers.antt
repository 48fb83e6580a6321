-- Each move that the tokens say has a place, and so has each move of the known prefix.
use Rattle.mm_step.specs.Plain.{token_texts}
use Rattle.mm_places.proofs.ProofPlaces.PlaceTable.{moves_listed, known_listed}
use Rattle.mm_places.proofs.place_table.move_places.Goals as goal

pub returns-clause-said : goal.returns-clause-said
returns-clause-said c =
    moves_listed (token_texts c.args.tokens.now) c.in_ok-places.places.items c.in_ok-places.ensures

pub returns-clause-known_said : goal.returns-clause-known_said
returns-clause-known_said c =
    known_listed (token_texts c.args.tokens.now) c.in_ok-places.places.items c.in_ok-places.ensures
