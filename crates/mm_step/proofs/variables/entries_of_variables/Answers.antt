use Rattle.std.proofs.Common.{◌≡◌, ◌-◌, arith}
use Rattle.mm_step.proofs.ByNumbers.EntryVariables.{rows_more, rows_all}
use Rattle.mm_step.proofs.variables.entries_of_variables.Goals as goal

pub loop-index-init : goal.loop-index-init
loop-index-init g c =
    let none : c.args.base - c.args.base ≡ 0 = omega arith in
    rw (c.new-entries.ensures.stack, none) tt

pub loop-index-preserved : goal.loop-index-preserved
loop-index-preserved g c =
    rows_more c.args.book.now.statements (g.S.Store.stack c.args.store.now) c.args.base
    c.loop-index.index _ _ _ _ (omega arith) (omega arith) c.at.ensures c.in_ok-row.ensures
    (rw c.deref.ensures.value at c.in_ok-push.ensures.pushed) c.loop-index.invariant

pub returns : goal.returns
returns g c =
    rows_all c.args.book.now.statements (g.S.Store.stack c.args.store.now) c.args.base
    c.loop-index.index _ (omega arith) c.loop-index.invariant
