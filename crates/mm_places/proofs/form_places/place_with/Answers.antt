-- Something keeps the proof from the strict form, and stands there.
use Rattle.std.proofs.Common.{take}
use Rattle.mm_proof.proofs.ProofNumbers.NumberedLabels.{reading_said}
use Rattle.mm_places.proofs.form_places.place_with.Goals as goal

pub fill_whole-requires : goal.fill_whole-requires
fill_whole-requires c =
    let own = c.requires.site in (c.requires.loose c.args.site.now.index own.s own.proof).0

pub first_loose-requires-clause-says : goal.first_loose-requires-clause-says
first_loose-requires-clause-says c =
    rw (c.deref-2.ensures.value, c.deref-3.ensures.value)
    (reading_said _ _ _ _ _ _ c.requires.site.proof.numbered c.in_ok-fill_whole.ensures.read)

pub loose_place-requires : goal.loose_place-requires
loose_place-requires c =
    let own = c.requires.site in
    let found = rw c.in-Some.is at c.in_ok-found.ensures in (
      take c.args.site.now.index c.args.site.now.statements,
      own.s,
      found c.args.site.now.index own.s own.proof,
    )

pub returns : goal.returns
returns c =
    let found = rw c.in-Some.is at c.in_ok-found.ensures in
    λ index s proof.
    c.loose_place.ensures (take index c.args.site.now.statements) s (found index s proof)

pub unreachable-requires : goal.unreachable-requires
unreachable-requires c =
    let own = c.requires.site in
    (c.requires.loose c.args.site.now.index own.s own.proof).1
    ((rw c.in-None.is at c.in_ok-found.ensures) c.args.site.now.index own.s own.proof)
