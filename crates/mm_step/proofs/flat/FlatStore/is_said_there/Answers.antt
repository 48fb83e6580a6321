use Rattle.std.proofs.Common.{slice_range}
use Rattle.std.proofs.lemmas.Option.{IfSome_then}
use Rattle.mm_step.specs.Stores.{numbers_in}
use Rattle.mm_step.proofs.StoreRanges.{read-at}
use Rattle.mm_step.proofs.flat.FlatStore.is_said_there.Goals as goal

pub returns-clause-said : goal.returns-clause-said
returns-clause-said c =
    IfSome_then c.is_said.result (rw c.deref.ensures.value at c.is_said.ensures.said)
    (λ is told e there.
    let named = read-at (λ a. numbers_in (slice_range c.args.self.now.symbols a.start a.end))
    c.args.self.now.stack.items _ c.index-entry.result.now e c.requires.index
    c.index-entry.ensures there in
    rw named at told)
