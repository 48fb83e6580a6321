use Rattle.std.proofs.Common.{arith, ap, ◌∙◌, length}
use Rattle.std.proofs.lemmas.List.{with_items_is}
use Rattle.std.proofs.lemmas.List.Sorted.{length_permutation}
use Rattle.mm_code.specs.Letters.{HasSpelling, IsExact}
use Rattle.mm_forms.proofs.SmallProofs.ListedByUse.{entries_within, renumbered_keep}
use Rattle.mm_forms.proofs.small.list_by_use.Goals as goal

pub labels_in_order-requires : goal.labels_in_order-requires
labels_in_order-requires c k one there =
    let o = c.in_ok-order.ensures in
    let at = rw c.deref-3.ensures.value at there in
    let within = entries_within c.args.own c.deref.result.now o.uses c.in_ok-order.order.items
    o.counted o.permuted k one at in
    omega (arith, within, o.many, c.len.ensures, c.deref-2.ensures.len)

pub places_of-requires : goal.places_of-requires
places_of-requires c k one there =
    let o = c.in_ok-order.ensures in
    let at = rw c.deref-4.ensures.value at there in
    let within = entries_within c.args.own c.deref.result.now o.uses c.in_ok-order.order.items
    o.counted o.permuted k one at in
    omega (arith, within, length_permutation _ _ o.permuted, ap length c.deref-4.ensures.value)

pub renumber-requires : goal.renumber-requires
renumber-requires c i place at =
    let o = c.in_ok-order.ensures in
    let below = c.in_ok-places.ensures.within i place (rw c.deref-5.ensures.value at at) in
    let most = c.requires in
    omega (
      arith,
      below,
      length_permutation _ _ o.permuted,
      ap length c.deref-4.ensures.value,
      o.many,
      c.len.ensures,
      c.deref-2.ensures.len,
      ap length c.deref-2.ensures.value,
      most,
    )

pub returns-clause-listed : goal.returns-clause-listed
returns-clause-listed c =
    let o = c.in_ok-order.ensures in
    let codes = with_items_is c.args.packed.codes c.renumber.new.codes
    (c.renumber.auto.codes ∙ c.deref_mut.ensures.len) in
    rw codes (record {
      order = c.in_ok-order.order.items;
      by_use = record {
        uses = o.uses;
        many = omega (
          arith,
          o.many,
          c.len.ensures,
          c.deref-2.ensures.len,
          ap length c.deref-2.ensures.value,
        );
        counted = rw c.deref.ensures.value at o.counted;
        permuted = o.permuted;
        ordered = o.ordered;
      };
      listed = rw (c.deref-2.ensures.value, c.deref-3.ensures.value) at c.in_ok-listed.ensures;
      places = c.in_ok-places.places.items;
      long = c.in_ok-places.ensures.long ∙ ap length c.deref-4.ensures.value;
      placed = rw c.deref-4.ensures.value at c.in_ok-places.ensures.placed;
      said = rw (c.deref-5.ensures.value, c.deref_mut.ensures.value) at c.renumber.ensures;
    })

pub returns-clause-many : goal.returns-clause-many
returns-clause-many c =
    let codes = with_items_is c.args.packed.codes c.renumber.new.codes
    (c.renumber.auto.codes ∙ c.deref_mut.ensures.len) in
    rw codes (c.renumber.auto.codes ∙ ap length c.deref_mut.ensures.value)

pub returns-clause-spelled : goal.returns-clause-spelled
returns-clause-spelled c all =
    let codes = with_items_is c.args.packed.codes c.renumber.new.codes
    (c.renumber.auto.codes ∙ c.deref_mut.ensures.len) in
    let said = rw c.deref_mut.ensures.value at c.renumber.ensures in
    rw codes (renumbered_keep c.args.own c.deref-5.result.now HasSpelling
    (λ i place at. omega arith) c.args.packed.codes.items c.renumber.new.codes said all)

pub returns-clause-exact : goal.returns-clause-exact
returns-clause-exact c all =
    let o = c.in_ok-order.ensures in
    let codes = with_items_is c.args.packed.codes c.renumber.new.codes
    (c.renumber.auto.codes ∙ c.deref_mut.ensures.len) in
    let said = rw c.deref_mut.ensures.value at c.renumber.ensures in
    rw codes (renumbered_keep c.args.own c.deref-5.result.now IsExact
    (λ i place at.
    let below = c.in_ok-places.ensures.within i place (rw c.deref-5.ensures.value at at) in
    let most = c.requires in
    omega (
      arith,
      below,
      length_permutation _ _ o.permuted,
      ap length c.deref-4.ensures.value,
      o.many,
      c.len.ensures,
      c.deref-2.ensures.len,
      ap length c.deref-2.ensures.value,
      most,
    ))
    c.args.packed.codes.items c.renumber.new.codes said all)
