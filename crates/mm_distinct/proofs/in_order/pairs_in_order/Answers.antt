-- The turned pairs were sorted by their variables.
use Rattle.std.proofs.Common.{rules}
use Rattle.std.proofs.lemmas.List.Sorted.{answers_always}
use Rattle.mm_distinct.proofs.TurnedPairs.{put_in_order}
use Rattle.mm_distinct.proofs.in_order.pairs_in_order.Goals as goal

pub returns : goal.returns
returns c =
    put_in_order _ _ c.requires
    (rw c.in_ok-ordered.ensures at c.sort_unstable_by_key.ensures.permutation)
    c.sort_unstable_by_key.ensures.sorted (answers_always _ _ _ (λ f a r g h. search rules))
