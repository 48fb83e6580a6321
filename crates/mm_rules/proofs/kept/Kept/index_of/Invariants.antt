-- The number stands between the bounds, if it is there.
use Rattle.std.proofs.Common.{◌-◌}
use Rattle.mm_rules.specs.Conclusion.{numbers_of}
use Rattle.mm_rules.proofs.NumberBounds.{IsWithinBounds}
use Rattle.mm_rules.proofs.kept.Kept.index_of.Given as goal

abbrev pub invariant-loop-low : goal.invariant-loop-low
invariant-loop-low l = IsWithinBounds (numbers_of l.self) l.id.0 l.low l.high

abbrev pub decreases-loop-low : goal.decreases-loop-low
decreases-loop-low l = l.high - l.low
