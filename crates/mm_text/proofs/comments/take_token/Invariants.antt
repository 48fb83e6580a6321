use Rattle.std.proofs.Common.{◌≡◌, ◌-◌, length}
use Rattle.mm_text.specs.Mirror.Position.{IsPosition, IsSameFile, shown_at}
use Rattle.mm_text.proofs.comments.take_token.Given as goal

-- comments alone were passed
abbrev pub invariant-comments : goal.invariant-comments
invariant-comments l = record {
  position : IsPosition l.position;
  same : IsSameFile l.initial.position l.position;
  left : shown_at l.initial.position ≡ shown_at l.position;
}

abbrev pub decreases-comments : goal.decreases-comments
decreases-comments l = length l.position.bytes.now - l.position.at
