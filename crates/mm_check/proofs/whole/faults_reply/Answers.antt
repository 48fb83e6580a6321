-- What is told is the verdict where that is no refusal, else all faults.
use Rattle.std.proofs.lemmas.Result.{IfOk-weaker}
use Rattle.mm_check.proofs.whole.faults_reply.Goals as goal

pub returns : goal.returns
returns c =
    IfOk-weaker c.faults_answer-reply.result _ _
    (λ reply told. told c.args.profile c.all_faults-answer.ensures.verdict
    c.all_faults-answer.ensures.faults)
    c.faults_answer-reply.ensures
