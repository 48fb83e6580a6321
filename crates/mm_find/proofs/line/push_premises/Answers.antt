-- A hypothesis and its sign follow.
use Rattle.std.proofs.Common.{ap, sym, ◌∙◌, ◌++◌, append-nil}
use Rattle.std.proofs.lemmas.List.{drop_all}
use Rattle.mm_rules.specs.Shown.{symbols_text}
use Rattle.mm_find.specs.Found.{premises}
use Rattle.mm_find.specs.Plain.{expressions_in}
use Rattle.mm_find.proofs.AssertionLines.{premise_next}
use Rattle.mm_find.proofs.line.push_premises.Goals as goal

pub loop-at-preserved : goal.loop-at-preserved
loop-at-preserved c =
    premise_next c.args.hypotheses.now c.loop-at.at c.index-hypotheses-at.result
    c.deref.result.now c.loop-at.out.items
    c.push_words.new.out.items c.push_word.new.out.items c.sign_before.result.now
    (c.args.out.now.items ++ symbols_text (premises (expressions_in c.args.hypotheses.now)))
    c.index-hypotheses-at.is c.deref.ensures.value c.loop-at-test.true c.in_ok-push_words.ensures
    c.in_ok-push_word.ensures c.sign_before.ensures c.loop-at.invariant

pub returns : goal.returns
returns c =
    sym (append-nil c.loop-at.out.items)
    ∙ ap (λ vs. c.loop-at.out.items ++ symbols_text (premises (expressions_in vs)))
    (sym (drop_all c.loop-at.at c.args.hypotheses.now c.loop-at-test.false))
    ∙ c.loop-at.invariant
