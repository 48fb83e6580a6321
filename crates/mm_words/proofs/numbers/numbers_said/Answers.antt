-- Each word says a number, or the first that doesn't is to blame.
use Rattle.mm_words.proofs.LemmaWishes.{none_said, said_all, said_more}
use Rattle.mm_words.proofs.numbers.numbers_said.Goals as goal

pub loop-word-preserved : goal.loop-word-preserved
loop-word-preserved c =
    rw c.in_ok-push.ensures.items (said_more c.args.words.now _ c.loop-word.word-index _ _
    c.loop-word-test.true c.loop-word.invariant c.in-Some.ensures)

pub returns-in_default-clause-fault : goal.returns-in_default-clause-fault
returns-in_default-clause-fault c =
    none_said c.args.words.now c.loop-word.word-index _ c.loop-word-test.true c.in_default.ensures

pub returns-clause-numbers : goal.returns-clause-numbers
returns-clause-numbers c =
    said_all c.args.words.now _ c.loop-word.word-index c.loop-word-test.false c.loop-word.invariant
