use Rattle.std.proofs.Common.{◌≡◌, ℕ, ◌≤◌, get_or, false}
use Rattle.mm_base.specs.Token.{is_space}
use Rattle.mm_text.proofs.scan.token_start.Given as goal

-- no byte of the run so far is white space
abbrev pub invariant-loop-start : goal.invariant-loop-start
invariant-loop-start l = record {
  from : l.low ≤ l.start;
  before : l.start ≤ l.at;
  ink : (k : ℕ) → l.start ≤ k → k ≤ l.at → is_space (get_or l.bytes k 0) ≡ false;
}

abbrev pub decreases-loop-start : goal.decreases-loop-start
decreases-loop-start l = l.start
