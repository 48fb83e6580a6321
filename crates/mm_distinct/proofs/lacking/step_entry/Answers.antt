use Rattle.std.proofs.Common.{◌≡◌, ◌<◌, ℕ, Some, slice_get, get_or, length, arith}
use Rattle.std.proofs.lemmas.Result.{IfOk-weaker}
use Rattle.mm_step.specs.Plain.{ids_in}
use Rattle.mm_step.specs.Mirror.CodeApply.{IsCallOf}
use Rattle.mm_step.proofs.ByNumbers.NumberedEntries.{call_within, call_there}
use Rattle.mm_distinct.proofs.lacking.step_entry.Given.{Over}
use Rattle.mm_distinct.proofs.lacking.step_entry.Goals as goal
use Rattle.mm_distinct.proofs.lacking.step_entry.Goals.{After-table, After-index-table-index}

-- the index is that of a call
within : (g : Over) (c : After-table g) → c.args.index < length c.table.inside.calls.now
within g c =
    let used = rw (← c.table.view_is) at c.requires.used in
    call_within _ _ _ c.table.inside.calls.now c.args.index used.0 c.table.invariant used.2

-- what the entry there stands for
called : (g : Over) (c : After-index-table-index g) (id : ℕ)
    → slice_get (ids_in c.table.inside.entries.now) c.args.index ≡ Some id
    → IsCallOf c.table.inside.site.statements c.table.inside.site.index id
    (get_or c.table.inside.calls.now c.args.index c.index-table-index.result)
called g c id there =
    let used = rw (← c.table.view_is) at c.requires.used in
    call_there _ _ _ c.table.inside.calls.now c.args.index used.0 id used.1
    c.index-table-index.result c.table.invariant used.2 used.3 there

pub offset_bounds-table-inside-index : goal.offset_bounds-table-inside-index
offset_bounds-table-inside-index g c =
    let less = within g c in omega (arith, less, c.table.told)

pub bounds-table-inside-index : goal.bounds-table-inside-index
bounds-table-inside-index g c = within g c

pub step_call-requires-clause-call : goal.step_call-requires-clause-call
step_call-requires-clause-call g c =
    let used = rw (← c.table.view_is) at c.requires.used in (used.0, called g c used.0 used.2)

pub returns-clause-steps : goal.returns-clause-steps
returns-clause-steps g c =
    rw (← c.table.view_is) (IfOk-weaker c.step_call.result _ _ (λ made steps. λ id there.
    steps id (called g (goal.at.returns-clause-steps g c).After-index-table-index id there))
    c.step_call.ensures.steps)
