-- One word more follows.
use Rattle.std.proofs.lemmas.List.{take_all}
use Rattle.mm_find.proofs.AssertionLines.{words_next}
use Rattle.mm_find.proofs.line.push_words.Goals as goal

pub loop-word-preserved : goal.loop-word-preserved
loop-word-preserved c =
    words_next c.args.words.now c.loop-word.word-index _ c.args.out.now.items c.loop-word.out.items
    c.push_word.new.out.items c.loop-word-test.true c.loop-word.invariant
    c.in_ok-push_word.ensures

pub returns : goal.returns
returns c =
    rw (take_all c.loop-word.word-index c.args.words.now c.loop-word-test.false) at
    c.loop-word.invariant
