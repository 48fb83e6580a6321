-- The position is one of the piece, or its end.
use Rattle.std.proofs.Common.{length, ◌-◌, ◌≤◌}
use Rattle.mm_text.proofs.stripped.mark_position.Given as goal

abbrev pub invariant-loop-at : goal.invariant-loop-at
invariant-loop-at l = (l.start ≤ l.at) × (l.at ≤ length l.piece)

abbrev pub decreases-loop-at : goal.decreases-loop-at
decreases-loop-at l = length l.piece - l.at
