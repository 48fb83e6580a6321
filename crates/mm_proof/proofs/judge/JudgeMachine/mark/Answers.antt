use Rattle.std.proofs.Common.{[], ◌∷◌, length, ap, refl, arith}
use Rattle.std.proofs.lemmas.List.{length-append}
use Rattle.mm_step.specs.Moves.{mark}
use Rattle.mm_proof.proofs.ProofNumbers.UsedAssertions.{marked_other}
use Rattle.mm_proof.proofs.ProofVerdicts.JudgedMoves.{run_mark, judged_more}
use Rattle.mm_proof.proofs.judge.JudgeMachine.mark.Goals as goal

pub returns-clause-ran : goal.returns-clause-ran
returns-clause-ran g c first prefix allowed was =
    let site = first.table.now.site in
    let ok = c.in_ok-mark.ensures.ok in
    judged_more g.S.Store.stack g.S.Store.kept first c.args.self.now _ prefix mark was refl refl refl
    (run_mark site.limit site.statements site.index prefix _ _ _ _ _ ok.0 ok.1 was.run ok.2
    c.mark.ensures.stack ok.3)
    (omega (
      arith,
      was.tags,
      ap length ok.3,
      length-append (g.S.Store.kept c.args.self.now.store.now) (ok.1 ∷ []),
    ))
    was.long
    (marked_other _ prefix _ _ (λ id e. absurd cc) was.marked)
    (omega arith)
