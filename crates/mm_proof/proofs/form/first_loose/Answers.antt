-- The labels of the list are judged by their numbers, and then the marks.
use Rattle.std.proofs.Common.{ap}
use Rattle.mm_step.specs.Mirror.Sites.{ProofSite}
use Rattle.mm_step.specs.Plain.{ids_in, token_texts}
use Rattle.mm_proof.specs.Mirror.CodeSteps.{moves_of}
use Rattle.mm_proof.proofs.ProofVerdicts.JudgedMoves.{steps_made}
use Rattle.mm_proof.proofs.ProofVerdicts.StrictForm.{strict_all, loose_label, loose_mark}
use Rattle.mm_proof.proofs.form.first_loose.Goals as goal

pub loose_mark-requires-clause-usable : goal.loose_mark-requires-clause-usable
loose_mark-requires-clause-usable c =
    let own = c.requires.site in
    let made = steps_made c.args.site.now.statements c.args.site.now.number _ c.args.site.now.index
    own.s own.sound.0 c.requires.steps own.proof.numbered in
    (c.args.site.now.index, rw (ap (λ (v : ProofSite). v.statements) c.site.view_is) made)

pub returns-in-Some : goal.returns-in-Some
returns-in-Some c =
    let own = c.requires.site in
    let (hids, hypotheses, found) = rw c.in-Some.is at c.in_ok-index.ensures in
    loose_label c.args.site.now.statements c.args.site.now.number c.args.site.now.index own.s
    (token_texts c.args.tokens.now) hids (ids_in c.args.listed.now)
    (moves_of c.args.entries.now c.args.codes.now) own.sound.0 own.proof.numbered hypotheses
    c.requires.listed c.requires.says
    (c.begins_list.ensures.first.0 c.if-not-begins_list.false) c.in-Some.index found

pub returns-in-Some-loose_mark : goal.returns-in-Some-loose_mark
returns-in-Some-loose_mark c =
    let own = c.requires.site in
    let (hids, hypotheses, new) = rw c.in_default.is at c.in_ok-index.ensures in
    let same = ap (λ (v : ProofSite). v.statements) c.site.view_is in
    loose_mark c.args.site.now.statements c.args.site.now.number c.args.site.now.index own.s
    (token_texts c.args.tokens.now) hids (ids_in c.args.listed.now)
    (moves_of c.args.entries.now c.args.codes.now) own.sound.0 own.proof.numbered hypotheses
    c.requires.listed c.requires.says c.requires.steps
    (c.begins_list.ensures.first.0 c.if-not-begins_list.false) new c.in-Some-loose_mark.number
    (rw same at c.in-Some-loose_mark.ensures)

pub returns-in-None : goal.returns-in-None
returns-in-None c =
    let own = c.requires.site in
    let (hids, hypotheses, new) = rw c.in_default.is at c.in_ok-index.ensures in
    let same = ap (λ (v : ProofSite). v.statements) c.site.view_is in
    strict_all c.args.site.now.statements c.args.site.now.number c.args.site.now.index own.s
    (token_texts c.args.tokens.now) hids (ids_in c.args.listed.now)
    (moves_of c.args.entries.now c.args.codes.now) own.sound.0 own.proof.numbered hypotheses
    c.requires.listed c.requires.says c.requires.steps new (rw same at c.in-None.ensures)
