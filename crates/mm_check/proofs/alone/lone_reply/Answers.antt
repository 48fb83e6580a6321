-- The answer is about the theorem that was reached.
use Rattle.std.proofs.Common.{inr}
use Rattle.std.proofs.lemmas.Result.{IfOk-weaker}
use Rattle.mm_base.specs.Statement.{plain_statement}
use Rattle.mm_check.proofs.alone.lone_reply.Goals as goal

pub returns-in-Ok : goal.returns-in-Ok
returns-in-Ok c =
    let r = c.in-Ok.ensures.reached in
    IfOk-weaker c.answer_about.result _ _
    (λ reply told.
    inr (r.before, plain_statement c.in-Ok.reached.statement, r.at, told r))
    c.answer_about.ensures
