use Rattle.std.proofs.Common.{subst}
use Rattle.std.proofs.lemmas.Result.{err_from_is_err_and}
use Rattle.mm_step.specs.Steps.{AreSteps}
use Rattle.mm_proof.proofs.ProofVerdicts.JudgedMoves.{held_moves, seen_moves, seen_limit}
use Rattle.mm_proof.proofs.verdict.answer_prefix.Goals as goal

pub new-site-requires : goal.new-site-requires
new-site-requires g c = let a = c.requires.steps in (a.index, a.s, a.proof)

pub pass-requires-clause-steps : goal.pass-requires-clause-steps
pass-requires-clause-steps g c =
    let site = c.new-site.ensures in
    let held = held_moves _ _ _ _ _ c.deref.ensures.value c.deref-2.ensures.value (seen_moves c.steps.view_is) in
    rw (site.statements, site.number) (subst (AreSteps c.args.book.now.statements c.args.id.0) held c.requires.steps)

pub returns-clause-passed : goal.returns-clause-passed
returns-clause-passed g c =
    let site = c.new-site.ensures in
    let held = held_moves _ _ _ _ _ c.deref.ensures.value c.deref-2.ensures.value (seen_moves c.steps.view_is) in
    rw held (rw (site.statements, site.number, site.limit, seen_limit c.steps.view_is) at c.in_ok-pass.ensures.passed)

pub returns-in_err-pass-clause-fault : goal.returns-in_err-pass-clause-fault
returns-in_err-pass-clause-fault g c =
    let p = err_from_is_err_and c.from_residual.result c.from_residual.ensures.1 in
    let site = c.new-site.ensures in
    let held = held_moves _ _ _ _ _ c.deref.ensures.value c.deref-2.ensures.value (seen_moves c.steps.view_is) in
    rw (p.1, p.2, held) (rw (site.statements, site.number, site.limit, seen_limit c.steps.view_is) at c.in_err-pass.ensures.fault)
