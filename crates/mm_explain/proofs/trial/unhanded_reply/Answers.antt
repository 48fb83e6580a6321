-- The text is too long, or at fault itself.
use Rattle.std.proofs.Common.{inl, inr}
use Rattle.std.proofs.lemmas.Result.{IfOk-weaker}
use Rattle.mm_explain.proofs.trial.unhanded_reply.Goals as goal

pub returns-in-Size : goal.returns-in-Size
returns-in-Size c =
    IfOk-weaker c.ask_reply.result _ _
    (λ reply told. inl (rw c.in-Size.is at c.requires, told)) c.ask_reply.ensures

pub wrong_reply-requires-clause-size : goal.wrong_reply-requires-clause-size
wrong_reply-requires-clause-size c = (rw c.in-Wrong.is at c.requires).0

pub wrong_reply-requires-clause-broken : goal.wrong_reply-requires-clause-broken
wrong_reply-requires-clause-broken c = (rw c.in-Wrong.is at c.requires).1

pub returns-in-Wrong : goal.returns-in-Wrong
returns-in-Wrong c =
    IfOk-weaker c.wrong_reply.result _ _ (λ reply told. inr told) c.wrong_reply.ensures
