-- What is told of its steps is told of the theorem.
use Rattle.std.proofs.Common.{ap, subst, ◌∙◌}
use Rattle.std.proofs.lemmas.Result.{IfOk-weaker}
use Rattle.mm_step.specs.declared.profile.Profile.{Profile}
use Rattle.mm_rules.specs.Conclusion.{Conclusion}
use Rattle.mm_render.specs.Compared.{IsCompared}
use Rattle.mm_rules.specs.Compared.{IsSameFault}
use Rattle.mm_base.proofs.Lists.{error_keeps}
use Rattle.mm_verdict.proofs.Questions.AskedTheorems.{why}
use Rattle.mm_render.proofs.ToldProofs.ComparedTexts.{compared_of, same_fault, asked_fault}
use Rattle.mm_render.proofs.asked_texts.is_same_proof.Goals as goal

pub is_same-requires : goal.is_same-requires
is_same-requires c =
    rw (ap (λ (v : Conclusion). v.sentences) c.checked.view_is) c.in_ok-theorem.ensures.theorem

pub returns-in_err-theorem-clause-fault : goal.returns-in_err-theorem-clause-fault
returns-in_err-theorem-clause-fault c =
    error_keeps c.from_residual.result c.in_err-theorem.field-0.0 _ c.from_residual.ensures.1
    (λ statements reads. asked_fault c.args.checked.now.profile statements c.args.label.now
    c.args.text.now c.in_err-theorem.field-0.0 (c.in_err-theorem.ensures.fault statements reads))

pub returns-clause-compared : goal.returns-clause-compared
returns-clause-compared c =
    let told = ap (λ (v : Conclusion). v.sentences) c.checked.view_is in
    let under = ap (λ (v : Conclusion). v.profile) c.checked.view_is in
    IfOk-weaker c.is_same.result _ _
    (λ same compared statements reads.
    let read = c.in_ok-theorem.ensures.read statements reads in
    subst (λ (p : Profile). IsCompared p statements c.args.label.now c.args.text.now same) under
    (compared_of _ _ _ _ _ c.in_ok-theorem.theorem.steps.moves c.args.text.now same (told ∙ read.0)
    read.1 compared))
    c.is_same.ensures.compared

pub returns-clause-fault : goal.returns-clause-fault
returns-clause-fault c =
    let told = ap (λ (v : Conclusion). v.sentences) c.checked.view_is in
    let under = ap (λ (v : Conclusion). v.profile) c.checked.view_is in
    why c.is_same.result _ _
    (λ fault refused statements reads.
    let read = c.in_ok-theorem.ensures.read statements reads in
    subst (λ (p : Profile). IsSameFault p statements c.args.label.now c.args.text.now fault) under
    (same_fault _ _ _ _ _ c.in_ok-theorem.theorem.steps.moves c.args.text.now fault (told ∙ read.0)
    read.1 refused))
    c.is_same.ensures.fault
