-- These are what the steps so far stand for.
use Rattle.std.proofs.Common.{◌≡◌, take}
use Rattle.mm_listing.specs.Mirror.StepUses.{sources_of}
use Rattle.mm_listing.proofs.uses.sources_at.Given as goal

abbrev pub invariant-loop-origin : goal.invariant-loop-origin
invariant-loop-origin l = l.found.items ≡ sources_of l.sources (take l.origin-index l.origins)
