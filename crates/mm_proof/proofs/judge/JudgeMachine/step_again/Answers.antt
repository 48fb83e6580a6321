use Rattle.std.proofs.Common.{length, ap, refl, ◌∙◌, sym, arith}
use Rattle.mm_step.specs.Moves.{again}
use Rattle.mm_proof.proofs.ProofNumbers.UsedAssertions.{marked_other}
use Rattle.mm_proof.proofs.ProofVerdicts.JudgedMoves.{run_again, judged_more}
use Rattle.mm_proof.proofs.judge.JudgeMachine.step_again.Goals as goal

pub returns-clause-ran : goal.returns-clause-ran
returns-clause-ran g c first prefix allowed was =
    let site = first.table.now.site in
    let ok = c.in_ok-step_again.ensures.ok in
    let kept = c.step_again.ensures.kept in
    judged_more g.S.Store.stack g.S.Store.kept first c.args.self.now _ prefix (again c.args.tag) was
    refl refl refl
    (rw kept (run_again site.limit site.statements site.index prefix c.args.tag _ _ _ _ ok.0
    was.run ok.1 ok.2))
    (was.tags ∙ sym (ap length kept))
    was.long
    (marked_other _ prefix _ _ (λ id e. absurd cc) was.marked)
    (omega arith)
