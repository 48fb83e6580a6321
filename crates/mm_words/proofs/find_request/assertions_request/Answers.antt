-- The words ask for all assertions, or by a flag that is refused beside.
use Rattle.std.proofs.Common.{refl, inr}
use Rattle.mm_words.proofs.AskedWords.{comment_refused}
use Rattle.mm_words.proofs.find_request.assertions_request.Goals as goal

pub returns-then-comment-clause-fault : goal.returns-then-comment-clause-fault
returns-then-comment-clause-fault c = λ words asked.
    comment_refused words _ c.args.comment c.if-comment.true asked

pub returns-clause-request : goal.returns-clause-request
returns-clause-request c = λ words asked. inr (refl, rw c.if-comment.false at asked)
