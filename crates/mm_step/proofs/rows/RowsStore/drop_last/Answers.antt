use Rattle.std.proofs.Common.{arith}
use Rattle.mm_step.specs.Stores.{numbers_in}
use Rattle.mm_step.proofs.StoreRanges.{take-seen}
use Rattle.mm_step.proofs.rows.RowsStore.drop_last.Goals as goal

pub returns-clause-stack : goal.returns-clause-stack
returns-clause-stack c =
    rw c.truncate.ensures.items (take-seen (λ r. numbers_in r.items) c.args.self.now.stack.items _ c.args.count (omega arith))
