-- By accepted proofs, or the refusal.
use Rattle.std.proofs.Common.{map}
use Rattle.std.proofs.lemmas.Result.{IfOk-weaker}
use Rattle.mm_text.specs.Files.{plain_file}
use Rattle.mm_check.proofs.AnswersTold.{no_users_beside, users_beside}
use Rattle.mm_check.proofs.users.answer_beside.Goals as goal

pub returns-in-Ok : goal.returns-in-Ok
returns-in-Ok g c = λ holds.
    users_beside c.args.all (map plain_file c.args.files.now) c.args.label.now c.args.fault.now
    c.in_ok-refused.refused holds c.in_ok-refused.ensures.text c.in_ok-refused.ensures.status
    c.in-Ok.found c.told_users.result c.in-Ok.ensures.users c.in-Ok.ensures.none
    c.told_users.ensures

pub returns-in-Err : goal.returns-in-Err
returns-in-Err g c =
    IfOk-weaker c.ask_reply.result _ _
    (λ reply says holds. no_users_beside c.args.all (map plain_file c.args.files.now)
    c.args.label.now c.args.fault.now c.in_ok-refused.refused holds c.in_ok-refused.ensures.text
    c.in_ok-refused.ensures.status c.in-Err.fault _ _ c.in-Err.ensures.fault says)
    c.ask_reply.ensures
