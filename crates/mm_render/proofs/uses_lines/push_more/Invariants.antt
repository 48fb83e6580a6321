-- The text so far is that of the steps so far.
use Rattle.std.proofs.Common.{◌≡◌, ◌++◌, take}
use Rattle.mm_render.specs.ShownUses.{more_uses_text}
use Rattle.mm_render.proofs.uses_lines.push_more.Given as goal

abbrev pub invariant-loop-step : goal.invariant-loop-step
invariant-loop-step l = l.out.items ≡ l.fn.out.items ++ more_uses_text (take l.step-index l.steps)
