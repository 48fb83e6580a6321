-- There is no white space so far.
use Rattle.std.proofs.Common.{take}
use Rattle.mm_code.specs.Words.{LacksWhiteSpace}
use Rattle.mm_verdict.proofs.text.word_len.Given as goal

abbrev pub invariant-loop-at : goal.invariant-loop-at
invariant-loop-at l = LacksWhiteSpace (take l.at l.text)
