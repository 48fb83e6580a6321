-- The words so far are made of decimal digits.
use Rattle.std.proofs.Common.{◌≡◌, map, take, true}
use Rattle.std.specs.List.{AllByRecursion}
use Rattle.mm_words.specs.Words.{is_decimal}
use Rattle.mm_words.proofs.numbers.decimal_count.Given as goal

abbrev pub invariant-loop-at : goal.invariant-loop-at
invariant-loop-at l =
    AllByRecursion (λ word. is_decimal word ≡ true) (map (λ word. word.now) (take l.at l.words))
