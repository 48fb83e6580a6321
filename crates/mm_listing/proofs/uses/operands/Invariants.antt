-- The list has those that are asked for of the operands so far.
use Rattle.std.proofs.Common.{take}
use Rattle.mm_frame.specs.Frame.{AreThose}
use Rattle.mm_listing.specs.Mirror.StepUses.{sources_of, IsAskedOf}
use Rattle.mm_listing.proofs.uses.operands.Given as goal

abbrev pub invariant-loop-index : goal.invariant-loop-index
invariant-loop-index l =
    AreThose (λ i operand. IsAskedOf l.essential l.call i) 0
    (sources_of l.sources (take l.index l.origins)) l.used.items
