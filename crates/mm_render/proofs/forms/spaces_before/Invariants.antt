-- The bytes so far are spaces.
use Rattle.std.proofs.Common.{◌≡◌, ◌+◌, drop}
use Rattle.mm_render.specs.Saved.{spaces}
use Rattle.mm_render.proofs.forms.spaces_before.Given as goal

abbrev pub invariant-loop-at : goal.invariant-loop-at
invariant-loop-at l = spaces l.bytes ≡ l.at + spaces (drop l.at l.bytes)
