-- One of them is another.
use Rattle.std.proofs.Common.{arith}
use Rattle.mm_with_lemmas.proofs.OtherProofs.{other_text}
use Rattle.mm_with_lemmas.proofs.proof_text.are_others.Goals as goal

pub returns-then-ne : goal.returns-then-ne
returns-then-ne c = λ t.
    other_text c.args.tokens.now c.args.others.now c.loop-at.at _ _ c.ne.result
    c.loop-at-test.true (omega arith) c.ne.ensures c.if-ne.true
