-- One more rule has another code.
use Rattle.std.proofs.Common.{◌≢◌, sym, ◌∙◌}
use Rattle.mm_help.specs.declared.rule_text.RuleText.{RuleText}
use Rattle.mm_help.proofs.AskedCodes.{all_more, different}
use Rattle.mm_help.proofs.explain.rule_with.Goals as goal

pub loop-rule-preserved : goal.loop-rule-preserved
loop-rule-preserved c = all_more (λ (rule : RuleText). rule.code.now ≢ c.args.code.now) c.args.rules.now c.loop-rule.rule-index _ c.loop-rule-test.true c.loop-rule.invariant
    (different _ c.args.code.now (sym c.eq.ensures ∙ c.if-eq.false))
