use Rattle.std.proofs.Common.{length, ap, get_or, arith}
use Rattle.mm_frame.specs.declared.rule.MeaningRule.TheVariants.{M1}
use Rattle.mm_frame.specs.Mirror.Layout.{statements_of}
use Rattle.mm_frame.specs.Sentence.{sentence_in}
use Rattle.mm_frame.proofs.Rules.RuleOrder.{none_of_more, first_at, all_kept}
use Rattle.mm_frame.proofs.broken.first_among.Goals as goal

pub loop-rule-init : goal.loop-rule-init
loop-rule-init c = record { kept = λ i d lt within broken. absurd (omega arith) }

pub loop-rule-preserved : goal.loop-rule-preserved
loop-rule-preserved c =
    none_of_more c.loop-rule.rule-index (statements_of c.args.tables.now) (sentence_in c.args.statement.now) _ M1 c.loop-rule.invariant
    (ap (λ rules. get_or rules c.loop-rule.rule-index M1) c.requires.rules)
    (λ broken. absurd (let told = c.breaks.ensures.1 broken in cc (told, c.if-breaks.false)))

pub returns-then-breaks : goal.returns-then-breaks
returns-then-breaks c =
    first_at c.loop-rule.rule-index (statements_of c.args.tables.now) (sentence_in c.args.statement.now) _ M1
    (let e = ap length c.requires.rules in let f = c.loop-rule-test.true in omega arith)
    c.loop-rule.invariant (ap (λ rules. get_or rules c.loop-rule.rule-index M1) c.requires.rules)
    (c.breaks.ensures.0 c.if-breaks.true)

pub returns : goal.returns
returns c =
    all_kept c.loop-rule.rule-index (statements_of c.args.tables.now) (sentence_in c.args.statement.now)
    (let e = ap length c.requires.rules in let f = c.loop-rule-test.false in omega arith) c.loop-rule.invariant
