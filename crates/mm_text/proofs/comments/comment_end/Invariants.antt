use Rattle.std.proofs.Common.{◌≡◌, ◌<◌, ◌≤◌, ◌-◌, length}
use Rattle.mm_base.specs.Token.{plain_token}
use Rattle.mm_text.specs.Mirror.Position.{IsPosition, IsSameFile, comment_at}
use Rattle.mm_text.proofs.comments.comment_end.Given as goal
use Rattle.mm_base.specs.MostBytes.{most_bytes}

-- what was passed leaves a comment open
abbrev pub invariant-parts : goal.invariant-parts
invariant-parts l = record {
  position : IsPosition l.position;
  from : l.fn.position.at ≤ l.position.at;
  same : IsSameFile l.fn.position l.position;
  begin : l.begin.at < most_bytes;
  left : comment_at (plain_token l.fn.begin) l.fn.position ≡ comment_at (plain_token l.begin) l.position;
}

abbrev pub decreases-parts : goal.decreases-parts
decreases-parts l = length l.position.bytes.now - l.position.at
