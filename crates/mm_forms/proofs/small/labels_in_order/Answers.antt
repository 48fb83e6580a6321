use Rattle.std.proofs.Common.{take}
use Rattle.std.proofs.lemmas.List.{take_more}
use Rattle.std.proofs.lemmas.Option.{slice_get-get_or}
use Rattle.mm_base.proofs.Lists.{zip_push}
use Rattle.mm_forms.proofs.small.labels_in_order.Goals as goal

pub loop-one-preserved : goal.loop-one-preserved
loop-one-preserved c =
    let one = slice_get-get_or c.args.order.now c.loop-one.one-index _ c.loop-one-test.true in
    let within = c.requires c.loop-one.one-index _ one in
    let prefix = take_more c.args.order.now c.loop-one.one-index _ c.loop-one-test.true in
    rw (c.in_ok-push.ensures.items, prefix)
    (zip_push _ (take c.loop-one.one-index c.args.order.now) c.loop-one.listed.items _ _
    c.loop-one.invariant (slice_get-get_or c.args.labels.now _ _ within))
