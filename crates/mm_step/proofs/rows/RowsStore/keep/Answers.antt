use Rattle.std.proofs.Common.{arith, ap, ◌∙◌}
use Rattle.mm_step.specs.Stores.{numbers_in}
use Rattle.mm_step.proofs.StoreRanges.{read-last, push-seen}
use Rattle.mm_step.proofs.rows.RowsStore.keep.Goals as goal

pub returns-clause-kept : goal.returns-clause-kept
returns-clause-kept c e there =
    let is = read-last (λ r. numbers_in r.items) c.args.self.now.stack.items _ c.index-last.result.now e c.requires (omega arith) c.index-last.ensures there in
    let row = ap numbers_in (c.in_ok-row.ensures.items ∙ c.deref.ensures.value) ∙ is in
    rw c.in_ok-push.ensures.items (push-seen (λ r. numbers_in r.items) c.args.self.now.kept.items _ e row)
