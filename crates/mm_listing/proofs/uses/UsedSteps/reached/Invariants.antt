-- The flags are those of the roots, and of what the steps passed so far use.
use Rattle.mm_listing.specs.Uses.{rows_of}
use Rattle.mm_listing.proofs.Machines.ReachedSteps.{HasReached}
use Rattle.mm_listing.proofs.uses.UsedSteps.reached.Given as goal

abbrev pub invariant-loop-index : goal.invariant-loop-index
invariant-loop-index l =
    HasReached l.self.roots.items (rows_of l.self.uses.items) l.reached.items l.index
