use Rattle.std.proofs.Common.{◌≡◌, ℕ, ◌≤◌, ◌<◌, get_or, true}
use Rattle.mm_base.specs.Token.{is_space}
use Rattle.mm_text.proofs.remarks.blank_start.Given as goal

-- what was passed is white space
abbrev pub invariant-loop-end : goal.invariant-loop-end
invariant-loop-end l = record {
  before : l.end ≤ l.at;
  blank : (k : ℕ) → l.end ≤ k → k < l.at → is_space (get_or l.bytes k 0) ≡ true;
}

abbrev pub decreases-loop-end : goal.decreases-loop-end
decreases-loop-end l = l.end
