-- The lines, and the line of their sums.
use Rattle.mm_minimize.proofs.ShorterTheorems.ShorterLists.{list_told}
use Rattle.mm_minimize.proofs.shorter_list.shorter_list.Goals as goal

pub returns-clause-list : goal.returns-clause-list
returns-clause-list g c =
    list_told c.args.shortening.now.checked.now c.list_all.new.list _ c.requires.labels
    c.in_ok-list_all.ensures.listed c.in_ok-push.ensures
