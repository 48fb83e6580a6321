use Rattle.std.proofs.Common.{◌≡◌, ℕ, ◌-◌, ◌<◌, ◌≤◌, length, get_or, true}
use Rattle.mm_text.proofs.sought.first_sought.Given as goal

-- each byte so far is passed over
abbrev pub invariant-loop-at : goal.invariant-loop-at
invariant-loop-at g l = record {
  from : l.start ≤ l.at;
  within : l.at ≤ length l.bytes;
  passed : (k : ℕ) → l.start ≤ k → k < l.at → g.S.Sought.passed (get_or l.bytes k 0) ≡ true;
}

abbrev pub decreases-loop-at : goal.decreases-loop-at
decreases-loop-at g l = length l.bytes - l.at
