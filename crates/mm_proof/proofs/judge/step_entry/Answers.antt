use Rattle.std.proofs.Common.{◌≡◌, ◌<◌, ℕ, Some, slice_get, get_or, length, arith}
use Rattle.std.proofs.lemmas.Option.{slice_get_within}
use Rattle.std.proofs.lemmas.Result.{on_ok_weaker}
use Rattle.mm_step.specs.Plain.{ids_in}
use Rattle.mm_step.specs.Mirror.CodeApply.{IsCallOf}
use Rattle.mm_step.proofs.ByNumbers.NumberedEntries.{call_within, call_there}
use Rattle.mm_proof.proofs.ProofNumbers.UsedAssertions.{marked_more}
use Rattle.mm_proof.proofs.judge.step_entry.Given.{Over}
use Rattle.mm_proof.proofs.judge.step_entry.Goals as goal
use Rattle.mm_proof.proofs.judge.step_entry.Goals.{After-table, After-index-table-index}

-- the index is that of a call
within : (g : Over) (c : After-table g) → c.args.index < length c.table.inside.calls.now
within g c =
    let used = rw (← c.table.view_is) at c.requires.used in
    call_within _ _ _ c.table.inside.calls.now c.args.index used.0 c.table.invariant used.2

-- what the entry there stands for
called : (g : Over) (c : After-index-table-index g) (id : ℕ)
    → slice_get (ids_in c.table.inside.entries.now) c.args.index ≡ Some id
    → IsCallOf c.table.inside.site.statements c.table.inside.site.index id
    (get_or c.table.inside.calls.now c.args.index c.index-table-index.result)
called g c id there =
    let used = rw (← c.table.view_is) at c.requires.used in
    call_there _ _ _ c.table.inside.calls.now c.args.index used.0 id used.1
    c.index-table-index.result c.table.invariant used.2 used.3 there

pub offset_bounds-table-inside-index : goal.offset_bounds-table-inside-index
offset_bounds-table-inside-index g c =
    let less = within g c in omega (arith, less, c.table.told)

pub bounds-table-inside-index : goal.bounds-table-inside-index
bounds-table-inside-index g c = within g c

pub step_by-requires-clause-call : goal.step_by-requires-clause-call
step_by-requires-clause-call g c =
    let used = rw (← c.table.view_is) at c.requires.used in (used.0, called g c used.0 used.2)

pub returns-clause-carried : goal.returns-clause-carried
returns-clause-carried g c =
    rw (← c.table.view_is) (on_ok_weaker c.step_by.result (λ carried. λ id there.
    carried id (called g (goal.at.returns-clause-carried g c).After-index-table-index id there))
    c.step_by.ensures.carried)

pub returns-clause-marked : goal.returns-clause-marked
returns-clause-marked g c prefix id there old =
    let less = slice_get_within c.args.table.now.ids c.args.index id there in
    marked_more c.args.table.now.ids prefix c.args.index id _ there (omega (arith, less, c.requires.long)) old

pub returns-clause-fault : goal.returns-clause-fault
returns-clause-fault g c rule at is =
    let told = c.step_by.ensures.fault rule at is in
    rw (← c.table.view_is) (told.0, λ id there. told.1 id (called g (goal.at.returns-clause-fault g c).After-index-table-index id there))
