use Rattle.std.proofs.Common.{◌≡◌, ◌-◌, drop}
use Rattle.mm_text.specs.Items.{holds_mark}
use Rattle.mm_text.proofs.comments.holds_mark.Given as goal

-- what was passed holds no mark
abbrev pub invariant-loop-at : goal.invariant-loop-at
invariant-loop-at l = holds_mark (drop (l.at - 1) l.text) ≡ holds_mark l.text
