use Rattle.std.proofs.Common.{rules, ◌≡◌, ◌+◌, length, Err, ap, ◌∙◌, vec_len}
use Rattle.std.proofs.lemmas.Result.{err_from_is_err_and}
use Rattle.mm_step.specs.Mirror.Sites.{CodeSite}
use Rattle.mm_listing.specs.Mirror.CodeLines.{expresses}
use Rattle.mm_proof.proofs.ProofVerdicts.JudgedMoves.{steps_made, wrong_end, wrong_move, on_rule_from}
use Rattle.mm_listing.proofs.Machines.ListedEnd.{lists_end}
use Rattle.mm_listing.proofs.lines.lines_in_frame.Goals as goal

pub lines_of-requires-clause-usable : goal.lines_of-requires-clause-usable
lines_of-requires-clause-usable g c =
    let same = ap (λ (t : CodeSite). t.site) c.table.view_is in
    let own = rw same at c.expression-expression.ensures.site in
    steps_made _ _ _ _ own.s own.sound.0 c.requires.steps own.proof.numbered

pub lines_of-requires-clause-names : goal.lines_of-requires-clause-names
lines_of-requires-clause-names g c = (c.requires.steps.moves, c.requires.steps.numbered)

pub returns-in_err-lines-clause-fault : goal.returns-in_err-lines-clause-fault
returns-in_err-lines-clause-fault g c =
    let same = ap (λ (t : CodeSite). t.site) c.table.view_is in
    let own = rw same at c.expression-expression.ensures.site in
    let p = err_from_is_err_and c.from_residual.result c.from_residual.ensures.1 in
    rw (p.1, p.2) (on_rule_from c.in_err-lines.field-0.0 _ (λ rule at is.
    wrong_move _ _ _ _ own.s _ rule at own.proof.numbered
    (λ names numbered. c.lines_of.ensures.fault rule at (c.in_err-lines.was ∙ ap Err is) names numbered)))

pub returns-in_err-ending-clause-fault : goal.returns-in_err-ending-clause-fault
returns-in_err-ending-clause-fault g c =
    let same = ap (λ (t : CodeSite). t.site) c.table.view_is in
    let own = rw same at c.expression-expression.ensures.site in
    let symbols = rw same at c.expression-expression.ensures.symbols in
    let p = err_from_is_err_and c.from_residual-in_err-ending.result c.from_residual-in_err-ending.ensures.1 in
    let long : vec_len c.in_ok-lines.lines ≡ length c.in_ok-lines.lines.items = search rules in
    rw (p.1, p.2) (on_rule_from c.in_err-ending.field-0.0 _ (λ rule at is.
    wrong_end _ _ _ _ own.s _ _ _ _ _ rule at c.one_number.ensures own.proof.numbered symbols c.in_ok-lines.ensures.run
    (let told = c.ending.ensures.fault rule at (c.in_err-ending.was ∙ ap Err is) in (told.0 ∙ ap (λ n. n + 1) (c.len.ensures ∙ long), told.1))))

pub returns-clause-listed : goal.returns-clause-listed
returns-clause-listed g c =
    let same = ap (λ (t : CodeSite). t.site) c.table.view_is in
    let own = rw same at c.expression-expression.ensures.site in
    let symbols = rw same at c.expression-expression.ensures.symbols in
    lists_end _ _ _ _ own.s _ _ _ _ _ (expresses c.args.expressed) _ own.proof.numbered symbols
    c.in_ok-lines.ensures.run c.in_ok-ending.ensures.ok c.in_ok-lines.ensures.lines
