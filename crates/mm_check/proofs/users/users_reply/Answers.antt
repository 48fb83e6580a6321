-- The reply is that over the answer of `check_with`.
use Rattle.std.proofs.lemmas.Result.{IfOk-weaker}
use Rattle.mm_check.proofs.users.users_reply.Goals as goal

pub returns : goal.returns
returns g c =
    IfOk-weaker c.users_answer-reply.result _ _
    (λ reply told. told c.check_with-answer.ensures.profile c.check_with-answer.ensures.verdict)
    c.users_answer-reply.ensures
