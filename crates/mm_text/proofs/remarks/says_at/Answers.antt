use Rattle.std.proofs.Common.{sym, ◌∙◌, arith}
use Rattle.mm_text.proofs.SaidBefore.{says-over}
use Rattle.mm_text.proofs.remarks.says_at.Goals as goal

pub returns-then-at-text : goal.returns-then-at-text
returns-then-at-text c =
    sym (c.loop-byte.invariant.same
    ∙ says-over c.args.text.now c.args.sentence.now c.loop-byte.at c.loop-byte.byte-index (omega arith) c.loop-byte-test.true)
