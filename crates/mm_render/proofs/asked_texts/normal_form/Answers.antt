-- The normal text of its steps is that of the theorem.
use Rattle.std.proofs.Common.{ap, ◌∙◌}
use Rattle.std.proofs.lemmas.Result.{IfOk-weaker}
use Rattle.mm_rules.specs.Conclusion.{Conclusion}
use Rattle.mm_render.specs.Forms.{IsNormalText}
use Rattle.mm_base.proofs.Lists.{error_keeps}
use Rattle.mm_render.proofs.ToldProofs.ToldTrees.{told_of_tree, normal_fault, ask_fault}
use Rattle.mm_verdict.proofs.Questions.AskedTheorems.{why}
use Rattle.mm_render.proofs.asked_texts.normal_form.Goals as goal

pub normal_text-requires : goal.normal_text-requires
normal_text-requires c =
    rw (ap (λ (v : Conclusion). v.sentences) c.checked.view_is) c.in_ok-theorem.ensures.theorem

pub returns-in_err-theorem-clause-fault : goal.returns-in_err-theorem-clause-fault
returns-in_err-theorem-clause-fault c =
    error_keeps c.from_residual.result c.in_err-theorem.field-0.0 _ c.from_residual.ensures.1
    (λ statements reads. ask_fault statements c.args.label.now c.in_err-theorem.field-0.0
    (c.in_err-theorem.ensures.fault statements reads))

pub returns-clause-text : goal.returns-clause-text
returns-clause-text c =
    let told = ap (λ (v : Conclusion). v.sentences) c.checked.view_is in
    IfOk-weaker c.normal_text.result _ _
    (λ text laid statements reads.
    let read = c.in_ok-theorem.ensures.read statements reads in
    told_of_tree _ _ _ _ c.in_ok-theorem.theorem.steps (told ∙ read.0) read.1
    (rw told c.in_ok-theorem.ensures.theorem.1) (λ before s trees. IsNormalText trees text.items) laid)
    c.normal_text.ensures.text

pub returns-clause-fault : goal.returns-clause-fault
returns-clause-fault c =
    let told = ap (λ (v : Conclusion). v.sentences) c.checked.view_is in
    why c.normal_text.result _ _
    (λ fault why statements reads.
    let read = c.in_ok-theorem.ensures.read statements reads in
    normal_fault _ _ _ _ c.in_ok-theorem.theorem.steps fault (told ∙ read.0) read.1
    (rw told c.in_ok-theorem.ensures.theorem.1) why)
    c.normal_text.ensures.fault
