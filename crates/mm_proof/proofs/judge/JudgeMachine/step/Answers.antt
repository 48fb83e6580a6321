use Rattle.std.proofs.Common.{Err, length, ap, refl, sym, ◌∙◌, arith}
use Rattle.mm_step.specs.Moves.{name}
use Rattle.mm_proof.proofs.ProofVerdicts.FirstFault.{handed}
use Rattle.mm_proof.proofs.ProofVerdicts.JudgedMoves.{on_rule_from, run_name, stops_first, judged_more}
use Rattle.mm_proof.proofs.judge.JudgeMachine.step.Goals as goal

pub step_entry-requires-clause-used : goal.step_entry-requires-clause-used
step_entry-requires-clause-used g c =
    let next = c.requires.next in
    rw next.ran.same_table (c.requires.id, next.allowed.0, c.requires.there, next.allowed.1)

pub step_entry-requires-clause-long : goal.step_entry-requires-clause-long
step_entry-requires-clause-long g c =
    rw c.requires.next.ran.same_table c.requires.next.ran.long

pub returns-in_err-step_entry-clause-stops : goal.returns-in_err-step_entry-clause-stops
returns-in_err-step_entry-clause-stops g c =
    handed _ c.from_residual.result c.from_residual.ensures.1
    (λ fault is first prefix id there allowed was. on_rule_from fault _ (λ rule at broken.
    let site = first.table.now.site in
    let told = rw was.same_table at (c.step_entry.ensures.fault rule at
    (c.in_err-step_entry.was ∙ ap Err (sym is ∙ broken))) in
    record {
      stack = g.S.Store.stack c.args.self.now.store.now;
      kept = g.S.Store.kept c.args.self.now.store.now;
      steps = c.args.self.now.steps;
      run = was.run;
      number = told.0;
      first = stops_first site.limit site.statements site.index id _ _ rule (told.1 id there);
    }))

pub returns-clause-ran : goal.returns-clause-ran
returns-clause-ran g c first prefix id there allowed was =
    let site = first.table.now.site in
    let ensures = c.in_ok-step_entry.ensures in
    let did = c.step_entry.ensures in
    let kept = did.kept in
    let carried = rw was.same_table at ensures.carried in
    let entries = rw was.same_table at ensures.entries in
    let marked = rw was.same_table at did.marked in
    let long = rw was.same_table at did.long in
    judged_more g.S.Store.stack g.S.Store.kept first c.args.self.now _ prefix (name id) was
    refl refl refl
    (rw kept (run_name site.limit site.statements site.index prefix id _ _ _ _ was.run
    (carried id there) entries))
    (was.tags ∙ sym (ap length kept))
    long
    (marked prefix id there was.marked)
    (omega arith)
