use Rattle.mm_distinct.proofs.asked.make_room_for_pair.Goals as goal

pub returns-in_ok-reserve-clause-same : goal.returns-in_ok-reserve-clause-same
returns-in_ok-reserve-clause-same c =
    rw c.in_ok-reserve.ensures.items c.sort_once.ensures.same
