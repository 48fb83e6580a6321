-- The reply is that over the answer of `check_with`.
use Rattle.std.proofs.lemmas.Result.{IfOk-weaker}
use Rattle.mm_check.proofs.accepted.checked_reply.Goals as goal

pub returns : goal.returns
returns g c =
    IfOk-weaker c.answer_or_verdict-reply.result _ _
    (λ reply told. told c.args.profile c.check_with-answer.ensures.profile
    c.check_with-answer.ensures.verdict)
    c.answer_or_verdict-reply.ensures
