use Rattle.std.proofs.Common.{◌∙◌}
use Rattle.std.proofs.lemmas.List.{with_items_is}
use Rattle.mm_distinct.proofs.AskedByNumbers.OrderedVariables as ordered
use Rattle.mm_distinct.proofs.asked.put_in_order.Goals as goal

pub returns : goal.returns
returns c =
    let items = with_items_is c.args.pairs.now c.turn_all.new.pairs
    (c.turn_all.auto.pairs ∙ c.deref_mut.ensures.len) in
    ordered.put_in_order c.args.pairs.now.items c.turn_all.new.pairs
    (rw c.deref_mut.ensures.value at c.turn_all.ensures) c.requires _
    (rw items at c.sort_once.ensures.same) c.sort_once.ensures.rising
