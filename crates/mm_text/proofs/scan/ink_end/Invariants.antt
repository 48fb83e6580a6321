use Rattle.std.proofs.Common.{◌≡◌, ℕ, ◌<◌, ◌≤◌, get_or, false}
use Rattle.mm_base.specs.Token.{is_space}
use Rattle.mm_text.proofs.scan.ink_end.Given as goal

-- no byte so far is white space
abbrev pub invariant-loop-at : goal.invariant-loop-at
invariant-loop-at l = (k : ℕ) → l.start ≤ k → k < l.at → is_space (get_or l.bytes k 0) ≡ false
