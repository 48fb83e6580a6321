use Rattle.std.proofs.Common.{◌≡◌, ℕ, ◌<◌, get_or, true}
use Rattle.mm_text.specs.Mirror.Position.{is_legal}
use Rattle.mm_text.proofs.scan.legal_up_to.Given as goal

-- each byte so far may stand in a file
abbrev pub invariant-loop-at : goal.invariant-loop-at
invariant-loop-at l = (k : ℕ) → k < l.at → is_legal (get_or l.bytes k 0) ≡ true
