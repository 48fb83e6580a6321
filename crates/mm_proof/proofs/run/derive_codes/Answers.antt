use Rattle.std.proofs.Common.{Err, ap, ◌∙◌}
use Rattle.std.proofs.lemmas.Result.{err_from_is_err_and}
use Rattle.mm_step.specs.Mirror.Sites.{CodeSite}
use Rattle.mm_proof.proofs.ProofVerdicts.JudgedMoves.{steps_made, proved_end, wrong_end, wrong_move}
use Rattle.mm_proof.proofs.ProofVerdicts.JudgedMoves.{on_rule_from}
use Rattle.mm_proof.proofs.run.derive_codes.Goals as goal

pub run_codes-requires-clause-usable : goal.run_codes-requires-clause-usable
run_codes-requires-clause-usable g c =
    let same = ap (λ (t : CodeSite). t.site) c.table.view_is in
    let own = rw same at c.expression-expression.ensures.site in
    steps_made _ _ _ _ own.s own.sound.0 c.requires.steps own.proof.numbered

pub returns-in_err-count-clause-fault : goal.returns-in_err-count-clause-fault
returns-in_err-count-clause-fault g c =
    let same = ap (λ (t : CodeSite). t.site) c.table.view_is in
    let own = rw same at c.expression-expression.ensures.site in
    let p = err_from_is_err_and c.from_residual.result c.from_residual.ensures.1 in
    rw (p.1, p.2) (on_rule_from c.in_err-count.field-0.0 _ (λ rule at is.
    wrong_move _ _ _ _ own.s _ rule at own.proof.numbered (λ names numbered.
    c.run_codes.ensures.fault rule at (c.in_err-count.was ∙ ap Err is) names numbered)))

pub returns-in_err-ending-clause-fault : goal.returns-in_err-ending-clause-fault
returns-in_err-ending-clause-fault g c =
    let same = ap (λ (t : CodeSite). t.site) c.table.view_is in
    let own = rw same at c.expression-expression.ensures.site in
    let symbols = rw same at c.expression-expression.ensures.symbols in
    let p = err_from_is_err_and c.from_residual-in_err-ending.result
    c.from_residual-in_err-ending.ensures.1 in
    rw (p.1, p.2) (on_rule_from c.in_err-ending.field-0.0 _ (λ rule at is.
    wrong_end _ _ _ _ own.s _ _ _ _ _ rule at c.one_number.ensures own.proof.numbered symbols
    c.in_ok-count.ensures.ok (c.ending.ensures.fault rule at (c.in_err-ending.was ∙ ap Err is))))

pub returns-clause-proved : goal.returns-clause-proved
returns-clause-proved g c =
    let same = ap (λ (t : CodeSite). t.site) c.table.view_is in
    let own = rw same at c.expression-expression.ensures.site in
    let symbols = rw same at c.expression-expression.ensures.symbols in
    proved_end _ _ _ _ own.s _ _ _ _ _ own.proof.numbered symbols c.in_ok-count.ensures.ok
    c.in_ok-ending.ensures.ok
