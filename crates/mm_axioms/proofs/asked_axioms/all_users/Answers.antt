-- The numbers are those of the users, as the statements of the files tell them.
use Rattle.std.proofs.Common.{◌≡◌, true, sym, ap, subst, ◌∙◌}
use Rattle.mm_base.proofs.Lists.{error_keeps}
use Rattle.mm_rules.specs.Conclusion.{Conclusion, labels_in}
use Rattle.mm_rules.specs.Answer.{IsKeptOf}
use Rattle.mm_verdict.proofs.Verdicts.AcceptedStatements.{read_statements, KeptWell}
use Rattle.mm_axioms.proofs.Resting.UsersOf.{all_users_of, users_within}
use Rattle.mm_axioms.proofs.asked_axioms.all_users.Goals as goal

pub returns-in_err-assertion-clause-fault : goal.returns-in_err-assertion-clause-fault
returns-in_err-assertion-clause-fault c =
    let well = subst KeptWell c.checked.view_is c.checked.invariant in
    error_keeps c.from_residual.result c.in_err-assertion.field-0.0 _ c.from_residual.ensures.1
    (λ statements reads. c.in_err-assertion.ensures.fault statements
    (read_statements c.args.checked.now statements well.origin reads).kept)

pub returns-clause-users : goal.returns-clause-users
returns-clause-users c = λ statements reads.
    let now : Conclusion = c.args.checked.now in
    let well = subst KeptWell c.checked.view_is c.checked.invariant in
    let kept : IsKeptOf statements now = (read_statements now statements well.origin reads).kept in
    let uses : c.checked.inside.kept ≡ now.uses = ap (λ (v : Conclusion). v.uses) c.checked.view_is in
    all_users_of statements now c.args.label.now _ _ kept c.assertion.ensures.sound.0
    (c.in_ok-assertion.ensures.found statements kept) (rw uses at c.in_ok-all_users_among.ensures)

pub returns-clause-in_range : goal.returns-clause-in_range
returns-clause-in_range c =
    let now : Conclusion = c.args.checked.now in
    let well = subst KeptWell c.checked.view_is c.checked.invariant in
    let statements = well.origin.statements in
    let kept : IsKeptOf statements now = (read_statements now statements well.origin well.origin.accepted.reads).kept in
    let uses : c.checked.inside.kept ≡ now.uses = ap (λ (v : Conclusion). v.uses) c.checked.view_is in
    let labels : labels_in c.checked.inside.book.statements ≡ now.labels = ap (λ (v : Conclusion). v.labels) c.checked.view_is in
    let told : c.checked.inside.book.statements ≡ now.sentences = ap (λ (v : Conclusion). v.sentences) c.checked.view_is in
    users_within true statements c.args.label.now _ now.labels
    (all_users_of statements now c.args.label.now _ _ kept c.assertion.ensures.sound.0
    (c.in_ok-assertion.ensures.found statements kept) (rw uses at c.in_ok-all_users_among.ensures))
    (ap labels_in (sym (told ∙ kept.sentences)) ∙ labels)
