-- The number stands between the bounds, if it is there.
use Rattle.std.proofs.Common.{◌-◌, map}
use Rattle.mm_rules.proofs.NumberBounds.{IsWithinBounds}
use Rattle.mm_axioms.proofs.bits.index_of.Given as goal

abbrev pub invariant-loop-low : goal.invariant-loop-low
invariant-loop-low l = IsWithinBounds (map (λ x. x.0) l.numbers) l.id.0 l.low l.high

abbrev pub decreases-loop-low : goal.decreases-loop-low
decreases-loop-low l = l.high - l.low
