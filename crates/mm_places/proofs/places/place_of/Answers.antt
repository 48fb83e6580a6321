-- A compressed proof begins with `(`.
use Rattle.mm_places.proofs.ProofPlaces.WholePlaces.{after_first}
use Rattle.mm_places.proofs.places.place_of.Goals as goal

pub returns-in-len1-up-clause-found : goal.returns-in-len1-up-clause-found
returns-in-len1-up-clause-found c token byte at =
    let whole =
    after_first c.args.tokens.now (c.begins_list.ensures.first.0 c.if-begins_list.true) in
    c.compressed_place.ensures.found token byte (rw whole at at)
