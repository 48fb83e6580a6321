-- The proof is judged where its `$p` stands.
use Rattle.mm_places.proofs.form_places.form_place.Goals as goal

pub place_with-requires-clause-loose : goal.place_with-requires-clause-loose
place_with-requires-clause-loose c =
    rw (c.new-site.ensures.statements, c.new-site.ensures.number) c.requires.loose

pub returns : goal.returns
returns c =
    rw (c.new-site.ensures.statements, c.new-site.ensures.number) at c.place_with.ensures
