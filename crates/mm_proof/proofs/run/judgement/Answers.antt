use Rattle.std.proofs.Common.{sym, ◌∙◌, subst}
use Rattle.std.proofs.lemmas.List.{length-map}
use Rattle.mm_step.specs.Mirror.Sites.{IsSite}
use Rattle.mm_proof.proofs.ProofTokens.ProofCodes.{calls_long}
use Rattle.mm_proof.proofs.ProofVerdicts.JudgedMoves.{proved_with, steps_made}
use Rattle.mm_proof.proofs.run.judgement.Goals as goal

pub fill_called-requires-clause-calls : goal.fill_called-requires-clause-calls
fill_called-requires-clause-calls g c =
    rw c.deref.ensures.value (
    sym (calls_long _ _ _ _ (c.in_ok-calls.ensures c.site.inside.own.index)) ∙
    length-map c.args.entries.now (λ l. l.0))

pub returns-clause-proved : goal.returns-clause-proved
returns-clause-proved g c =
    let st = c.args.site.statements in
    let site = subst IsSite c.site.view_is c.site.invariant.1 in
    let calls = rw (← c.deref.ensures.value) at (c.in_ok-calls.ensures c.site.inside.own.index) in
    let marked = rw (← c.deref-2.ensures.value) at c.in_ok-derive_codes.ensures.marked in
    let made = steps_made _ _ _ _ site.s site.sound.0 c.requires.steps site.proof.numbered in
    proved_with _ st _ _ _ site.sound.0 c.requires.steps (c.in_ok-fill_called.ensures st
    c.args.site.index _ (rw (← c.site.view_is) calls) made marked)
    c.in_ok-derive_codes.ensures.proved
