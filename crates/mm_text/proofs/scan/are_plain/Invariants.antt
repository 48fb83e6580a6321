use Rattle.std.proofs.Common.{◌≡◌, ℕ, ◌<◌, ◌≤◌, ◌⊎◌, get_or}
use Rattle.mm_text.proofs.scan.are_plain.Given as goal

-- each byte so far is within the bounds so far, or a line feed
abbrev pub invariant-loop-at : goal.invariant-loop-at
invariant-loop-at l = record {
  low : (k : ℕ) → k < l.at → (get_or l.bytes k 0 ≡ 10) ⊎ (l.least ≤ get_or l.bytes k 0);
  high : (k : ℕ) → k < l.at → get_or l.bytes k 0 ≤ l.greatest;
}
