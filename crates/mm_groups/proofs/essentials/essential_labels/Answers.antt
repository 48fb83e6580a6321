-- A hypothesis without a typing is essential.
use Rattle.std.proofs.Common.{sym, ◌∙◌}
use Rattle.mm_frame.specs.Numbers.{labelled_sentences}
use Rattle.mm_frame.proofs.Frames.EssentialHypotheses.{all_stated}
use Rattle.mm_groups.proofs.EssentialLabels.{essential_step, other_step}
use Rattle.mm_groups.proofs.essentials.essential_labels.Goals as goal

pub loop-hypothesis-preserved-then-is_some : goal.loop-hypothesis-preserved-then-is_some
loop-hypothesis-preserved-then-is_some c stated are =
    other_step c.args.book.now.statements c.args.hypotheses.now stated c.requires.typed are
    c.loop-hypothesis.hypothesis-index _ c.loop-hypothesis-test.true _
    (sym c.is_some.ensures ∙ c.if-is_some.true) (c.loop-hypothesis.invariant stated are)

pub loop-hypothesis-preserved : goal.loop-hypothesis-preserved
loop-hypothesis-preserved c stated are =
    essential_step c.args.book.now.statements c.args.hypotheses.now stated c.requires.typed are
    c.loop-hypothesis.hypothesis-index _ c.loop-hypothesis-test.true
    c.loop-hypothesis.labels.items c.push.new.self.items _
    (sym c.is_some.ensures ∙ c.if-is_some.false) c.label.ensures
    (c.loop-hypothesis.invariant stated are) c.in_ok-push.ensures.items

pub returns : goal.returns
returns c stated are =
    rw (all_stated (labelled_sentences c.args.book.now.statements) c.args.hypotheses.now stated
    c.loop-hypothesis.hypothesis-index are c.loop-hypothesis-test.false) at
    (c.loop-hypothesis.invariant stated are)
