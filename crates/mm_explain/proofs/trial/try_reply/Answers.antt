-- The text has tokens of a proof, or it has none.
use Rattle.std.proofs.Common.{inl, inr}
use Rattle.std.proofs.lemmas.Result.{IfOk-weaker}
use Rattle.mm_explain.proofs.trial.try_reply.Goals as goal

pub returns-in-Ok : goal.returns-in-Ok
returns-in-Ok c =
    IfOk-weaker c.tokens_reply.result _ _
    (λ reply told index s number. inr (c.in-Ok.ensures.legal, told index s number))
    c.tokens_reply.ensures

pub returns-in-Err : goal.returns-in-Err
returns-in-Err c =
    IfOk-weaker c.unhanded_reply.result _ _ (λ reply told index s number. inl told)
    c.unhanded_reply.ensures
