use Rattle.mm_distinct.proofs.AskedByNumbers.OrderedVariables.{once_same, once_rising}
use Rattle.mm_distinct.proofs.asked.sort_once.Goals as goal

pub returns-clause-same : goal.returns-clause-same
returns-clause-same c =
    once_same _ _ _ c.sort_unstable.ensures.permutation c.dedup.ensures.filtered

pub returns-clause-rising : goal.returns-clause-rising
returns-clause-rising c =
    once_rising _ _ _ c.sort_unstable.ensures.permutation c.dedup.ensures.filtered
    c.sort_unstable.ensures.sorted
