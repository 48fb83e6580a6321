-- What is told is the verdict where that is no refusal, else all faults.
use Rattle.std.proofs.Common.{inl}
use Rattle.std.proofs.lemmas.Result.{IfOk-weaker}
use Rattle.mm_rules.specs.Answer.{verdict_of_conclusion}
use Rattle.mm_verdict.proofs.ReplyTexts.{made_both, no_refusal}
use Rattle.mm_check.proofs.whole.faults_answer.Goals as goal

pub returns-in-Ok : goal.returns-in-Ok
returns-in-Ok c =
    made_both c.accepted_reply.result _ _ _
    (λ reply said ends profile verdict faults. inl (
      verdict_of_conclusion c.in-Ok.checked,
      rw c.in-Ok.is at verdict,
      no_refusal c.in-Ok.checked c.in-Ok.checked.incomplete,
      said,
      ends,
    ))
    c.accepted_reply.ensures.text c.accepted_reply.ensures.status

pub returns-in-Err : goal.returns-in-Err
returns-in-Err c =
    IfOk-weaker c.faults_told.result _ _
    (λ reply told profile verdict faults. told profile (rw c.in-Err.is at faults))
    c.faults_told.ensures
