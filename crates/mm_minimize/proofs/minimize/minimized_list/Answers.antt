-- The lines are those of this database.
use Rattle.mm_minimize.proofs.minimize.minimized_list.Goals as goal

pub returns-clause-list : goal.returns-clause-list
returns-clause-list g c =
    rw c.in_ok-shortening.ensures.database at c.shorter_list-list.ensures.list
