-- The words ask for a proof, or for what is known of one.
use Rattle.std.proofs.lemmas.Result.{IfOk-weaker}
use Rattle.mm_words.proofs.form_request.normal_request.Goals as goal

pub known_request-requires : goal.known_request-requires
known_request-requires c = rw c.if-is_given.true at c.is_given.ensures

pub returns-clause-request : goal.returns-clause-request
returns-clause-request c =
    IfOk-weaker c.proof_request.result _ _
    (λ request asked words commands.
    asked words commands (rw c.if-is_given.false at c.is_given.ensures))
    c.proof_request.ensures.request
