use Rattle.std.proofs.Common.{get_or, set, true, ◌-◌, sym, subst}
use Rattle.std.proofs.lemmas.List.{take_all, take_more}
use Rattle.mm_listing.specs.Mirror.StepUses.{AreSet}
use Rattle.mm_listing.proofs.Machines.ReachedSteps.{set_none, set_more}
use Rattle.mm_listing.proofs.uses.reach.Goals as goal

pub loop-step-init : goal.loop-step-init
loop-step-init c = set_none c.args.reached.now.items

pub loop-step-preserved : goal.loop-step-preserved
loop-step-preserved c =
    let used = c.args.used.now in
    let at = c.loop-step.step-index in
    let step = get_or used at 0 in
    let old = c.args.reached.now.items in
    let now = c.loop-step.reached.items in
    subst (AreSet old (set now (step - 1) true)) (sym (take_more used at 0 c.loop-step-test.true))
    (set_more old now _ step c.loop-step.invariant (c.requires at 0 c.loop-step-test.true))

pub returns : goal.returns
returns c =
    subst (AreSet c.args.reached.now.items c.loop-step.reached.items)
    (take_all c.loop-step.step-index c.args.used.now c.loop-step-test.false) c.loop-step.invariant
