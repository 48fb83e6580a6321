use Rattle.std.proofs.Common.{◌≡◌, ℕ, ◌+◌, ◌≤◌, ◌<◌, get_or, false}
use Rattle.mm_text.specs.Remarks.{is_mark}
use Rattle.mm_text.proofs.remarks.last_mark.Given as goal

-- no mark ends behind the position
abbrev pub invariant-loop-end : goal.invariant-loop-end
invariant-loop-end l = record {
  within : l.end ≤ l.stop;
  none : (k : ℕ) → l.end < k + 2 → k + 2 ≤ l.stop
      → is_mark (get_or l.bytes k 0) (get_or l.bytes (k + 1) 0) ≡ false;
}

abbrev pub decreases-loop-end : goal.decreases-loop-end
decreases-loop-end l = l.end
