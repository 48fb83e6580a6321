-- The flags are those of the steps so far.
use Rattle.std.proofs.Common.{take}
use Rattle.mm_listing.specs.Mirror.StepUses.{AreSet}
use Rattle.mm_listing.proofs.uses.reach.Given as goal

abbrev pub invariant-loop-step : goal.invariant-loop-step
invariant-loop-step l = AreSet l.fn.reached.items l.reached.items (take l.step-index l.used)
