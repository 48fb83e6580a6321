use Rattle.std.proofs.Common.{ap, ◌∙◌}
use Rattle.mm_step.specs.Stores.{numbers_in}
use Rattle.mm_step.proofs.StoreRanges.{read-at, push-seen}
use Rattle.mm_step.proofs.rows.RowsStore.push_copy.Goals as goal

pub returns-clause-pushed : goal.returns-clause-pushed
returns-clause-pushed c e there =
    let is = read-at (λ r. numbers_in r.items) c.args.self.now.kept.items _ c.index.result.now e c.requires c.index.ensures there in
    let row = ap numbers_in (c.in_ok-row.ensures.items ∙ c.deref.ensures.value) ∙ is in
    rw c.in_ok-push.ensures.items (push-seen (λ r. numbers_in r.items) c.args.self.now.stack.items _ e row)
