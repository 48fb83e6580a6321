-- What the table has.
use Rattle.std.proofs.Common.{List, Option, length, refl}
use Rattle.std.proofs.lemmas.Option.{slice_get_read}
use Rattle.mm_frame.specs.declared.number.LabelId.{LabelId}
use Rattle.mm_with_lemmas.proofs.FoundedTheorems.{former_there}
use Rattle.mm_with_lemmas.proofs.founded.former_at.Goals as goal

pub returns-in-Some : goal.returns-in-Some
returns-in-Some c =
    let formers : List (Option LabelId) = c.args.formers.now in
    let there = c.in-Some.ensures.lookup in
    let former : Option LabelId = c.in-Some.former.now in
    former_there formers c.args.id.0 former
    (slice_get_read formers (length formers) c.args.id.0 former refl there.3.0 there.1)
