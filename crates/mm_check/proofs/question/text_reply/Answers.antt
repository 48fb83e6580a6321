-- The text is told, or the fault is.
use Rattle.std.proofs.Common.{refl}
use Rattle.mm_check.proofs.question.text_reply.Goals as goal

pub returns-in-Ok : goal.returns-in-Ok
returns-in-Ok c = rw c.in-Ok.is (refl, refl)

pub returns-in-Err : goal.returns-in-Err
returns-in-Err c = rw c.in-Err.is c.ask_reply.ensures
