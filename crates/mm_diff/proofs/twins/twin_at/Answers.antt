-- What the table has.
use Rattle.std.proofs.Common.{List, Option, length, refl}
use Rattle.std.proofs.lemmas.Option.{slice_get_read}
use Rattle.mm_frame.specs.declared.number.LabelId.{LabelId}
use Rattle.mm_diff.proofs.OneAssertions.{twin_lacks, twin_past, twin_there}
use Rattle.mm_diff.proofs.twins.twin_at.Goals as goal

pub returns-in-Some-clause-some : goal.returns-in-Some-clause-some
returns-in-Some-clause-some c =
    let twins : List (Option LabelId) = c.args.twins.now in
    let there = c.in-Some.ensures.lookup in
    twin_there twins c.args.id.0 c.in-Some.twin.now
    (slice_get_read twins (length twins) c.args.id.0 c.in-Some.twin.now refl there.3.0 there.1)

pub returns-in-Some-clause-none : goal.returns-in-Some-clause-none
returns-in-Some-clause-none c = λ none.
    let twins : List (Option LabelId) = c.args.twins.now in
    let there = c.in-Some.ensures.lookup in
    twin_lacks twins c.args.id.0 c.in-Some.twin.now
    (slice_get_read twins (length twins) c.args.id.0 c.in-Some.twin.now refl there.3.0 there.1) none

pub returns-in-None-clause-none : goal.returns-in-None-clause-none
returns-in-None-clause-none c = λ none.
    twin_past c.args.twins.now c.args.id.0 c.in-None.ensures.lookup.3
