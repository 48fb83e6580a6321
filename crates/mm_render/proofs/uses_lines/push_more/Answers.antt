use Rattle.std.proofs.Common.{◌++◌, List, ℕ, ap, ◌∙◌}
use Rattle.std.proofs.lemmas.List.{take_all}
use Rattle.mm_render.specs.ShownUses.{more_uses_text}
use Rattle.mm_render.proofs.ToldProofs.ShownUses.{more_told}
use Rattle.mm_render.proofs.uses_lines.push_more.Goals as goal

pub loop-step-preserved : goal.loop-step-preserved
loop-step-preserved c =
    more_told c.args.steps.now c.loop-step.step-index c.args.out.now.items c.loop-step.out.items
    c.push.new.self.items c.push_decimal.new.out.items c.loop-step-test.true c.loop-step.invariant
    c.in_ok-push.ensures.items c.in_ok-push_decimal.ensures

pub returns : goal.returns
returns c =
    c.loop-step.invariant ∙ ap (λ (l : List ℕ). c.args.out.now.items ++ more_uses_text l)
    (take_all c.loop-step.step-index c.args.steps.now c.loop-step-test.false)
