use Rattle.mm_step.proofs.ByNumbers.EntryVariables.{entry_listed}
use Rattle.mm_step.proofs.variables.entry_of_variables.Goals as goal

pub returns : goal.returns
returns c =
    entry_listed c.args.book.now.statements c.args.entry.now c.in_ok-variables.variables.items _ _ _ _
    c.in-len1-up.len_at_least c.in_ok-variables.ensures c.new-row.ensures.items
    c.in_ok-push.ensures.items (rw c.deref.ensures.value at c.in_ok-extend_from_slice.ensures.items)
