use Rattle.std.proofs.Common.{◌≡◌, ℕ, ◌<◌, ◌≤◌, get_or, true}
use Rattle.mm_text.proofs.sought.first_slowly.Given as goal

-- each byte so far is passed over
abbrev pub invariant-loop-at : goal.invariant-loop-at
invariant-loop-at g l = (k : ℕ) → l.start ≤ k → k < l.at → g.S.Sought.passed (get_or l.bytes k 0) ≡ true
