use Rattle.std.proofs.Common.{Err, ap, subst, ◌∙◌}
use Rattle.std.proofs.lemmas.Result.{err_from_is_err_and}
use Rattle.mm_step.specs.Mirror.Sites.{IsSite}
use Rattle.mm_proof.proofs.ProofVerdicts.JudgedMoves.{steps_made, on_rule_from, has_passed, has_stopped}
use Rattle.mm_proof.proofs.run.pass.Goals as goal

pub run_codes-requires-clause-usable : goal.run_codes-requires-clause-usable
run_codes-requires-clause-usable g c =
    let site = subst IsSite c.site.view_is c.site.invariant.1 in
    steps_made _ _ _ _ site.s site.sound.0 c.requires.steps site.proof.numbered

pub returns-in_err-run_codes-clause-fault : goal.returns-in_err-run_codes-clause-fault
returns-in_err-run_codes-clause-fault g c =
    let own = subst IsSite c.site.view_is c.site.invariant.1 in
    let p = err_from_is_err_and c.from_residual-in_err-run_codes.result
    c.from_residual-in_err-run_codes.ensures.1 in
    rw (p.1, p.2) (on_rule_from c.in_err-run_codes.field-0.0 _ (λ rule at is.
    has_stopped _ _ _ _ own.s _ rule at own.proof.numbered (λ names numbered.
    c.run_codes.ensures.fault rule at (c.in_err-run_codes.was ∙ ap Err is) names numbered)))

pub returns-clause-passed : goal.returns-clause-passed
returns-clause-passed g c =
    let own = subst IsSite c.site.view_is c.site.invariant.1 in
    has_passed _ _ _ _ _ _ _ _ _ own.proof.numbered c.in_ok-run_codes.ensures.ok
