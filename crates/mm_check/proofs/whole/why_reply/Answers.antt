-- What is told is the verdict where that is no refusal, else all faults.
use Rattle.std.proofs.Common.{refl, inl, inr}
use Rattle.mm_rules.specs.Answer.{verdict_of_conclusion}
use Rattle.mm_rules.specs.Verdict.{Load}
use Rattle.mm_verdict.proofs.ReplyTexts.{made_both, no_refusal}
use Rattle.mm_check.proofs.whole.why_reply.Goals as goal

pub returns-in-Ok : goal.returns-in-Ok
returns-in-Ok c =
    made_both c.accepted_reply.result _ _ _
    (λ reply said ends. inl (
      verdict_of_conclusion c.in-Ok.checked,
      c.in-Ok.ensures.verdict,
      no_refusal c.in-Ok.checked c.in-Ok.checked.incomplete,
      said,
      ends,
    ))
    c.accepted_reply.ensures.text c.accepted_reply.ensures.status

pub returns-in-Err-Load : goal.returns-in-Err-Load
returns-in-Err-Load c =
    made_both c.fault_reply.result _ _ _
    (λ reply said ends. inl (
      Load c.in-Err-Load.rule,
      rw c.in-Err-Load.field-0-is at c.in-Err-Load.ensures.why,
      refl,
      said,
      ends,
    ))
    c.fault_reply.ensures.text c.fault_reply.ensures.status

pub returns-in-Err-Refused : goal.returns-in-Err-Refused
returns-in-Err-Refused c = inr (rw c.in-Err-Refused.field-0-is at c.in-Err-Refused.ensures.why)
