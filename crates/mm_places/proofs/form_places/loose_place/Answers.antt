-- It is a label of the list, or a mark.
use Rattle.std.proofs.Common.{subst, arith}
use Rattle.mm_step.specs.Plain.{token_texts}
use Rattle.mm_proof.specs.Mirror.CodeForm.{IsLooseBy}
use Rattle.mm_places.proofs.ProofPlaces.FormPlaces.{label_there, mark_there, mark_said, few_listed}
use Rattle.mm_places.proofs.form_places.loose_place.Goals as goal

pub overflow_add-result : goal.overflow_add-result
overflow_add-result c =
    let (before, s, by) = c.requires in
    let label = subst (IsLooseBy before s (token_texts c.args.tokens.now)) c.in-Label.is by in
    omega (arith, few_listed before s c.args.tokens.now c.in-Label.index label)

pub said_place-requires : goal.said_place-requires
said_place-requires c =
    let (before, s, by) = c.requires in
    let first = subst (IsLooseBy before s (token_texts c.args.tokens.now)) c.in-Mark.is by in
    let said = mark_said before s (token_texts c.args.tokens.now) c.in-Mark.number first in
    (before, s, said.0, said.1, said.2)

pub returns-in-Label : goal.returns-in-Label
returns-in-Label c = λ before s by.
    let tokens = token_texts c.args.tokens.now in
    label_there before s tokens c.in-Label.index
    (subst (IsLooseBy before s tokens) c.in-Label.is by)

pub returns-in-Mark : goal.returns-in-Mark
returns-in-Mark c = λ before s by.
    let tokens = token_texts c.args.tokens.now in
    mark_there before s tokens c.in-Mark.number (subst (IsLooseBy before s tokens) c.in-Mark.is by)
    c.said_place.result.0 c.said_place.result.1 c.said_place.ensures
