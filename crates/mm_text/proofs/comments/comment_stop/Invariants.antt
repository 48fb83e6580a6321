use Rattle.std.proofs.Common.{◌≡◌, ℕ, ◌≤◌, ◌<◌, get_or, true}
use Rattle.mm_text.specs.Mirror.Position.{is_quiet}
use Rattle.mm_text.proofs.comments.comment_stop.Given as goal

-- at no byte so far can the comment end or be wrong
abbrev pub invariant-loop-stop : goal.invariant-loop-stop
invariant-loop-stop l =
    (k : ℕ) → l.at ≤ k → k < l.stop → is_quiet (get_or l.bytes k 0) ≡ true
