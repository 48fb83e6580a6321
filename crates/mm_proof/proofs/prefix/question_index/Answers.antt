use Rattle.std.proofs.Common.{sym, length, arith}
use Rattle.std.proofs.lemmas.List.Sums.{position_or_len_is}
use Rattle.mm_proof.specs.Tokens.{is_question}
use Rattle.mm_proof.proofs.prefix.question_index.Goals as goal

pub returns : goal.returns
returns c =
    sym (position_or_len_is is_question c.args.text.now (length c.args.text.now) 0 (omega arith) (λ k less. c.loop-index.invariant k (omega (arith, less, c.loop-index-test.false))) (λ less. absurd (omega (arith, less))))
