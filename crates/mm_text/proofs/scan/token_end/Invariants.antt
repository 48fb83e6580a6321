use Rattle.std.proofs.Common.{◌≡◌, ℕ, ◌<◌, ◌≤◌, ◌==◌, ◌-◌, length, get_or, false}
use Rattle.mm_base.specs.Token.{is_space}
use Rattle.mm_text.proofs.scan.token_end.Given as goal

-- no byte of the token so far is white space or a `$`
abbrev pub invariant-words : goal.invariant-words
invariant-words l = record {
  from : l.start ≤ l.from;
  within : l.from ≤ length l.bytes;
  ink : (k : ℕ) → l.start ≤ k → k < l.from → is_space (get_or l.bytes k 0) ≡ false;
  words : (k : ℕ) → l.start ≤ k → k < l.from → (get_or l.bytes k 0 == 36) ≡ false;
}

abbrev pub decreases-words : goal.decreases-words
decreases-words l = length l.bytes - l.from
