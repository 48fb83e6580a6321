use Rattle.mm_distinct.proofs.AskedByNumbers.ListedVariables.{shared_of}
use Rattle.mm_distinct.proofs.AskedByNumbers.OrderedVariables.{symbols_rise, same_sorted}
use Rattle.mm_distinct.proofs.asked.shared_numbers.Goals as goal

pub returns : goal.returns
returns c =
    let picked = rw (c.deref.ensures.value, c.deref-2.ensures.value) at c.in_ok-shared.ensures in
    let moved = c.sort_unstable.ensures.permutation in
    shared_of _ _ _ _ _ _ _ c.in_ok-first.ensures c.in_ok-second.ensures picked
    (same_sorted _ _ moved)
    (symbols_rise _ _ picked.once moved c.sort_unstable.ensures.sorted)
