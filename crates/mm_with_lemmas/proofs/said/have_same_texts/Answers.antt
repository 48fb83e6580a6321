-- One more text.
use Rattle.std.proofs.Common.{arith}
use Rattle.mm_with_lemmas.proofs.SaidAlike.{texts_on}
use Rattle.mm_with_lemmas.proofs.said.have_same_texts.Goals as goal

pub loop-at-preserved : goal.loop-at-preserved
loop-at-preserved c =
    texts_on c.args.tokens.now c.args.others.now c.loop-at.at _ _ c.loop-at-test.true
    (omega arith) c.loop-at.invariant (c.is_same_text.ensures c.if-not-is_same_text.false)
