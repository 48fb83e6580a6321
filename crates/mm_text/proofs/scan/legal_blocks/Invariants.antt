use Rattle.std.proofs.Common.{◌≤◌, ◌-◌, length}
use Rattle.mm_text.specs.Mirror.Position.{IsLegalPrefix}
use Rattle.mm_text.proofs.scan.legal_blocks.Given as goal

-- each byte so far may stand in a file
abbrev pub invariant-loop-end : goal.invariant-loop-end
invariant-loop-end l = (l.start ≤ l.end) × IsLegalPrefix l.bytes l.end

abbrev pub decreases-loop-end : goal.decreases-loop-end
decreases-loop-end l = length l.bytes - l.end
