use Rattle.mm_step.proofs.variables.make_room.Goals as goal

pub returns-in_ok-reserve : goal.returns-in_ok-reserve
returns-in_ok-reserve c = rw c.in_ok-reserve.ensures.items c.sort_once.ensures.same
