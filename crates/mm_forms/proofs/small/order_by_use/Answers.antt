use Rattle.std.proofs.Common.{ap, ◌∙◌, length}
use Rattle.std.specs.Vec.{with_items}
use Rattle.std.proofs.lemmas.List.{with_items_is}
use Rattle.mm_forms.proofs.small.order_by_use.Goals as goal

pub count_uses-requires : goal.count_uses-requires
count_uses-requires c = rw c.deref_mut.ensures.value (c.in_ok-order.ensures.none c.args.own)

pub sort_by_use-requires : goal.sort_by_use-requires
sort_by_use-requires c =
    let long = c.count_uses.auto.uses ∙ c.deref_mut.ensures.len in
    rw (c.deref_mut-2.ensures.value, with_items_is c.in_ok-order.order c.count_uses.new.uses long)
    (λ k d less. (c.count_uses.ensures k d less).0)

pub returns : goal.returns
returns c =
    let long = c.count_uses.auto.uses ∙ c.deref_mut.ensures.len in
    let counted = with_items_is c.in_ok-order.order c.count_uses.new.uses long in
    let sorted = with_items_is (with_items c.in_ok-order.order c.count_uses.new.uses)
    c.sort_by_use.new.uses (c.sort_by_use.auto.uses ∙ c.deref_mut-2.ensures.len) in
    rw sorted (record {
      uses = c.count_uses.new.uses;
      many = c.count_uses.auto.uses ∙ ap length c.deref_mut.ensures.value
          ∙ c.in_ok-order.ensures.many;
      counted = c.count_uses.ensures;
      permuted = rw (c.deref_mut-2.ensures.value, counted) at c.sort_by_use.ensures.permuted;
      ordered = c.sort_by_use.ensures.ordered;
    })
