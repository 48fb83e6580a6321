-- The text so far is that of the words so far.
use Rattle.std.proofs.Common.{◌≡◌, ◌++◌, take}
use Rattle.mm_code.specs.Layout.{texts}
use Rattle.mm_rules.specs.Shown.{symbols_text}
use Rattle.mm_find.proofs.line.push_words.Given as goal

abbrev pub invariant-loop-word : goal.invariant-loop-word
invariant-loop-word l =
    l.out.items ≡ l.fn.out.items ++ symbols_text (texts (take l.word-index l.words))
