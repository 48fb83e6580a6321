use Rattle.std.proofs.Common.{slice_range}
use Rattle.mm_step.specs.Stores.{numbers_in}
use Rattle.mm_step.proofs.StoreRanges.{read-at, push-seen}
use Rattle.mm_step.proofs.flat.FlatStore.push_copy.Goals as goal

pub returns-clause-pushed : goal.returns-clause-pushed
returns-clause-pushed c e there =
    let is = read-at (λ a. numbers_in (slice_range c.args.self.now.symbols a.start a.end)) c.args.self.now.kept.items _ c.index-copied.result.now e c.requires c.index-copied.ensures there in
    rw c.in_ok-push.ensures.items
    (push-seen (λ a. numbers_in (slice_range c.args.self.now.symbols a.start a.end)) c.args.self.now.stack.items _ e is)
