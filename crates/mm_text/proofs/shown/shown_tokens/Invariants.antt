-- The tokens so far, and then what is left, are what stands in the text outside comments.
use Rattle.std.proofs.Common.{◌≡◌, ◌++◌, length, map}
use Rattle.mm_base.specs.Token.{plain_token}
use Rattle.mm_text.specs.Items.{Clear}
use Rattle.mm_text.specs.Mirror.Position.{IsPosition, shown_at}
use Rattle.mm_text.specs.Shown.{shown_in}
use Rattle.mm_text.proofs.shown.shown_tokens.Given as goal

abbrev pub invariant-tokens : goal.invariant-tokens
invariant-tokens l = record {
  position : IsPosition l.position;
  left : shown_in l.text ≡ map Clear (map plain_token l.tokens.items) ++ shown_at l.position;
}

abbrev pub decreases-tokens : goal.decreases-tokens
decreases-tokens l = length (shown_at l.position)
