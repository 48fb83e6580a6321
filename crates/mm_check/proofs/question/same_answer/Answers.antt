-- The proofs are compared, or the fault is that of the statements or of the text.
use Rattle.std.proofs.Common.{inl, inr}
use Rattle.std.proofs.lemmas.Result.{IfOk-weaker}
use Rattle.mm_check.proofs.question.same_answer.Goals as goal

pub returns-in_ok-text-in-Ok : goal.returns-in_ok-text-in-Ok
returns-in_ok-text-in-Ok c = λ statements reads. inr (
  c.in-Ok.same,
  c.in-Ok.ensures.compared statements reads,
  c.in_ok-text-in-Ok.ensures,
  c.sameness_status-status.ensures,
)

pub returns-in-Err : goal.returns-in-Err
returns-in-Err c =
    IfOk-weaker c.ask_reply.result _ _
    (λ reply h statements reads. inl (c.in-Err.fault, c.in-Err.ensures.fault statements reads, h))
    c.ask_reply.ensures
