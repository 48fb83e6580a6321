use Rattle.std.proofs.Common.{◌≡◌, ◌<◌, ℕ, List, Some, slice_get, length, sym, subst, arith}
use Rattle.mm_base.proofs.Lists.{get_within}
use Rattle.mm_step.specs.declared.call.Call.{Call}
use Rattle.mm_step.specs.Plain.{ids_in}
use Rattle.mm_step.specs.Mirror.CodeSteps.{MayBeUsed}
use Rattle.mm_step.specs.Mirror.CodeApply.{IsCallOf}
use Rattle.mm_step.specs.Mirror.Sites.{CodeSite}
use Rattle.mm_step.proofs.ByNumbers.NumberedEntries.{call_within, call_there}
use Rattle.mm_step.proofs.call_table.CallTable.call.Goals as goal

pub bounds-calls-index : goal.bounds-calls-index
bounds-calls-index c =
    let less = subst (λ (t : CodeSite). c.args.index < length t.ids) (sym c.self.view_is) c.requires
    in
    let id = get_within (ids_in c.self.inside.entries.now) c.args.index less in
    call_within _ _ _ c.self.inside.calls.now c.args.index id.0 c.self.invariant id.1

pub offset_bounds-calls-index : goal.offset_bounds-calls-index
offset_bounds-calls-index c =
    let less = subst (λ (t : CodeSite). c.args.index < length t.ids) (sym c.self.view_is) c.requires
    in
    let id = get_within (ids_in c.self.inside.entries.now) c.args.index less in
    let within = call_within _ _ _ c.self.inside.calls.now c.args.index id.0 c.self.invariant id.1
    in
    omega (arith, within, c.self.told)

pub returns : goal.returns
returns c =
    subst (λ (t : CodeSite). (id : ℕ) (label : List ℕ) → slice_get t.ids c.args.index ≡ Some id
    → MayBeUsed t.site.statements t.site.index label id
    → IsCallOf t.site.statements t.site.index id c.index-calls-index.result) c.self.view_is
    (λ id label there used.
    subst (λ (call : Call). IsCallOf c.self.inside.site.statements c.self.inside.site.index id call)
    (sym c.index-calls-index.is)
    (call_there _ _ _ c.self.inside.calls.now c.args.index id id label c.index-calls-index.result
    c.self.invariant there used there))
