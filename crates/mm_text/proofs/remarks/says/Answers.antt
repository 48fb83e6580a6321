use Rattle.std.proofs.Common.{◌+◌, ◌||◌, drop, sym, ap, ◌∙◌}
use Rattle.mm_text.specs.Remarks.{says}
use Rattle.mm_text.proofs.SaidBefore.{says-step, says-nil, starts-nil}
use Rattle.mm_text.proofs.remarks.says.Goals as goal

pub returns-then-says_at : goal.returns-then-says_at
returns-then-says_at c =
    sym (c.loop-at.invariant
    ∙ says-step c.args.sentence.now c.args.text.now c.loop-at.at c.loop-at-test.true
    ∙ ap (λ b. b || says c.args.sentence.now (drop (c.loop-at.at + 1) c.args.text.now)) (sym c.says_at.ensures ∙ c.if-says_at.true))

pub loop-at-preserved : goal.loop-at-preserved
loop-at-preserved c =
    c.loop-at.invariant
    ∙ says-step c.args.sentence.now c.args.text.now c.loop-at.at c.loop-at-test.true
    ∙ ap (λ b. b || says c.args.sentence.now (drop (c.loop-at.at + 1) c.args.text.now)) (sym c.says_at.ensures ∙ c.if-says_at.false)

pub returns : goal.returns
returns c =
    c.is_empty.ensures ∙ sym (c.loop-at.invariant
    ∙ says-nil c.args.sentence.now c.args.text.now c.loop-at.at c.loop-at-test.false
    ∙ starts-nil c.args.sentence.now)
