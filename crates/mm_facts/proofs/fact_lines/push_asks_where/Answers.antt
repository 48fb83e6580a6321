-- The facts are told where they are wanted.
use Rattle.std.proofs.Common.{sym, ◌∙◌}
use Rattle.std.proofs.lemmas.Result.{on_ok_weaker}
use Rattle.mm_facts.proofs.DetailTexts.{are_asked, not_asked}
use Rattle.mm_facts.proofs.fact_lines.push_asks_where.Goals as goal

pub returns-then-is_wanted : goal.returns-then-is_wanted
returns-then-is_wanted c =
    on_ok_weaker c.push_asks.result
    (λ h. are_asked c.args.out.now.items c.push_asks.new.out.items c.args.unmet _
    (sym (c.is_wanted.ensures c.args.label.now c.args.step.now) ∙ c.if-is_wanted.true) h)
    c.push_asks.ensures

pub returns : goal.returns
returns c =
    not_asked c.args.out.now.items c.args.unmet _
    (sym (c.is_wanted.ensures c.args.label.now c.args.step.now) ∙ c.if-is_wanted.false)
