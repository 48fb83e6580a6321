use Rattle.std.proofs.Common.{sym, ap, ◌∙◌}
use Rattle.std.proofs.lemmas.List.{take_all}
use Rattle.mm_listing.specs.Mirror.StepUses.{sources_of}
use Rattle.mm_listing.proofs.Machines.StepOperands.{sources_more}
use Rattle.mm_listing.proofs.uses.sources_at.Goals as goal

pub loop-origin-init : goal.loop-origin-init
loop-origin-init c = c.new-found.ensures.items

pub loop-origin-preserved : goal.loop-origin-preserved
loop-origin-preserved c =
    rw (c.in_ok-push.ensures.items, c.loop-origin.invariant)
    (sym (sources_more c.args.sources.now c.args.origins.now c.loop-origin.origin-index
    c.loop-origin-test.true))

pub returns : goal.returns
returns c =
    c.loop-origin.invariant ∙ ap (sources_of c.args.sources.now)
    (take_all c.loop-origin.origin-index c.args.origins.now c.loop-origin-test.false)
