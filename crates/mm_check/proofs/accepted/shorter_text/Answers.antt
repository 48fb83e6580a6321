-- The lines are those of the list.
use Rattle.mm_check.proofs.accepted.shorter_text.Goals as goal

pub returns-in-Ok : goal.returns-in-Ok
returns-in-Ok g c = c.in-Ok.ensures.list
