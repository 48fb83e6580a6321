-- The users, or the answer to another question.
use Rattle.std.proofs.Common.{map}
use Rattle.std.proofs.lemmas.Result.{IfOk-weaker}
use Rattle.mm_text.specs.Files.{plain_file}
use Rattle.mm_check.proofs.AnswersTold.{other_question}
use Rattle.mm_check.proofs.command.about_reply.Goals as goal

pub returns-in-Users : goal.returns-in-Users
returns-in-Users g c = rw c.in-Users.is c.users_reply.ensures

pub returns-in_default : goal.returns-in_default
returns-in_default g c =
    IfOk-weaker c.checked_reply.result _ _
    (λ reply told. other_question c.args.question.now (map plain_file c.args.files.now)
    c.args.label.now _ _ c.in_default.not-Users told)
    c.checked_reply.ensures
