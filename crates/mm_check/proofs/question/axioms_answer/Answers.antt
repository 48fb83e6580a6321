-- The report, or the fault, is that of the statements.
use Rattle.std.proofs.Common.{ℕ, List, map, inl, inr, ap, ◌∙◌}
use Rattle.std.proofs.lemmas.Result.{IfOk-weaker}
use Rattle.mm_frame.specs.declared.number.LabelId.{LabelId}
use Rattle.mm_check.specs.Reply.{report_text}
use Rattle.mm_check.proofs.question.axioms_answer.Goals as goal

pub returns-in_ok-text-in-Ok : goal.returns-in_ok-text-in-Ok
returns-in_ok-text-in-Ok c = λ statements reads labels.
    let axioms : List ℕ = map (λ (id : LabelId). id.0) c.in-Ok.report.axioms.items in
    let unproved : List ℕ = map (λ (id : LabelId). id.0) c.in-Ok.report.unproved.items in
    inr (
      axioms,
      unproved,
      c.in-Ok.ensures.report statements reads,
      c.in_ok-text-in-Ok.ensures ∙ ap (λ (ls : List (List ℕ)). report_text ls axioms unproved) labels,
      c.report_status-status.ensures,
    )

pub returns-in-Err : goal.returns-in-Err
returns-in-Err c =
    IfOk-weaker c.ask_reply.result _ _
    (λ reply h statements reads labels.
    inl (c.in-Err.fault, c.in-Err.ensures.fault statements reads, h))
    c.ask_reply.ensures
