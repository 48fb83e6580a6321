-- A hypothesis without a typing is essential.
use Rattle.std.proofs.lemmas.Option.{slice_get_within}
use Rattle.std.proofs.Common.{sym, ◌∙◌}
use Rattle.mm_frame.specs.Numbers.{labelled_sentences}
use Rattle.mm_frame.proofs.Frames.EssentialHypotheses.{all_stated, hypothesis_there}
use Rattle.mm_find.proofs.Assertions.{essential_step, other_step}
use Rattle.mm_find.proofs.assertion.essential.Goals as goal

pub expression_at-requires : goal.expression_at-requires
expression_at-requires c =
    let all = labelled_sentences c.args.book.now.statements in
    let (stated, are) = c.requires.stated in
    let (s, at, there) = hypothesis_there all c.args.hypotheses.now stated
    c.loop-hypothesis.hypothesis-index _ are c.loop-hypothesis-test.true in
    slice_get_within all _ s there

pub loop-hypothesis-preserved-then-is_some : goal.loop-hypothesis-preserved-then-is_some
loop-hypothesis-preserved-then-is_some c stated are =
    other_step c.args.book.now.statements c.args.hypotheses.now stated c.requires.typed are
    c.loop-hypothesis.hypothesis-index _ c.loop-hypothesis-test.true _
    (sym c.is_some.ensures ∙ c.if-is_some.true) (c.loop-hypothesis.invariant stated are)

pub loop-hypothesis-preserved : goal.loop-hypothesis-preserved
loop-hypothesis-preserved c stated are =
    essential_step c.args.book.now.statements c.args.hypotheses.now stated c.requires.typed are
    c.loop-hypothesis.hypothesis-index _ c.loop-hypothesis-test.true
    c.loop-hypothesis.expressions.items c.push.new.self.items _
    (sym c.is_some.ensures ∙ c.if-is_some.false) c.in_ok-expression_at.ensures
    (c.loop-hypothesis.invariant stated are) c.in_ok-push.ensures.items

pub returns : goal.returns
returns c stated are =
    rw (all_stated (labelled_sentences c.args.book.now.statements) c.args.hypotheses.now stated
    c.loop-hypothesis.hypothesis-index are c.loop-hypothesis-test.false) at
    (c.loop-hypothesis.invariant stated are)
