use Rattle.std.proofs.Common.{◌≡◌, ℕ, ◌≤◌, ◌<◌, drop, get_or, true}
use Rattle.mm_base.specs.Token.{is_space, tokens_from}
use Rattle.mm_text.proofs.scan.skip_space.Given as goal

-- what was stepped over is white space
abbrev pub invariant-loop-at : goal.invariant-loop-at
invariant-loop-at l = record {
  same : (file : ℕ) → tokens_from file l.start (drop l.start l.bytes) ≡ tokens_from file l.at (drop l.at l.bytes);
  space : (k : ℕ) → l.start ≤ k → k < l.at → is_space (get_or l.bytes k 0) ≡ true;
}
