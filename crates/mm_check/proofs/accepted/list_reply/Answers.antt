-- The text is told, with the status of the verdict.
use Rattle.std.proofs.Common.{refl}
use Rattle.mm_check.proofs.accepted.list_reply.Goals as goal

pub returns-in-Ok : goal.returns-in-Ok
returns-in-Ok c = rw c.in-Ok.is (refl, c.conclusion_status.ensures)
