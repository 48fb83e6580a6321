-- The reply is that to the question.
use Rattle.std.proofs.lemmas.Result.{IfOk-weaker}
use Rattle.mm_check.proofs.AnswersTold.{verdict_told}
use Rattle.mm_check.proofs.whole.whole_reply.Goals as goal

pub returns-in-Check : goal.returns-in-Check
returns-in-Check g c =
    rw c.in-Check.is
    (IfOk-weaker c.checked_reply.result _ _ (λ reply told. verdict_told _ _ _ _ told)
    c.checked_reply.ensures)

pub returns-in-Axioms : goal.returns-in-Axioms
returns-in-Axioms g c = rw c.in-Axioms.is c.checked_reply-in-Axioms.ensures

pub returns-in-Shorter : goal.returns-in-Shorter
returns-in-Shorter g c = rw c.in-Shorter.is c.checked_reply-in-Shorter.ensures
