-- The words so far say the numbers so far.
use Rattle.std.proofs.Common.{map, take}
use Rattle.std.specs.List.{AllZip}
use Rattle.mm_words.specs.Words.{SaysNumber}
use Rattle.mm_words.proofs.numbers.numbers_said.Given as goal

abbrev pub invariant-loop-word : goal.invariant-loop-word
invariant-loop-word l =
    AllZip SaysNumber (map (λ word. word.now) (take l.word-index l.words)) l.numbers.items
