use Rattle.std.proofs.Common.{subst}
use Rattle.std.proofs.lemmas.Result.{err_from_is_err_and}
use Rattle.mm_step.specs.Steps.{AreSteps}
use Rattle.mm_proof.proofs.ProofVerdicts.JudgedMoves.{held_moves, seen_moves, seen_limit}
use Rattle.mm_proof.proofs.ProofVerdicts.JudgedMoves.{proved_in_order}
use Rattle.mm_proof.proofs.verdict.judgement_in_order.Goals as goal

pub judgement-requires-clause-steps : goal.judgement-requires-clause-steps
judgement-requires-clause-steps g c =
    let site = c.new-site.ensures in
    let held = held_moves _ _ _ _ _ c.deref.ensures.value c.deref-2.ensures.value (seen_moves c.steps.view_is) in
    rw (site.statements, site.number) (subst (AreSteps c.args.book.now.statements c.args.id.0) held c.requires.steps)

pub returns-clause-proved : goal.returns-clause-proved
returns-clause-proved g c =
    let site = c.new-site.ensures in
    let held = held_moves _ _ _ _ _ c.deref.ensures.value c.deref-2.ensures.value (seen_moves c.steps.view_is) in
    rw held (proved_in_order _ _ _ _ _ _ c.put_in_order.ensures.rising c.put_in_order.ensures.same
    (rw (site.statements, site.number, site.limit, seen_limit c.steps.view_is) at c.in_ok-judgement.ensures.proved))

pub returns-in_err-judgement-clause-fault : goal.returns-in_err-judgement-clause-fault
returns-in_err-judgement-clause-fault g c =
    let site = c.new-site.ensures in
    let p = err_from_is_err_and c.from_residual.result c.from_residual.ensures.1 in
    let held = held_moves _ _ _ _ _ c.deref.ensures.value c.deref-2.ensures.value (seen_moves c.steps.view_is) in
    rw (p.1, p.2, held) (rw (site.statements, site.number, site.limit, seen_limit c.steps.view_is) at c.in_err-judgement.ensures.fault)
