-- The patterns so far are short.
use Rattle.std.proofs.Common.{map, take}
use Rattle.mm_words.specs.Words.{AreShort}
use Rattle.mm_words.proofs.find_request.are_short.Given as goal

abbrev pub invariant-loop-pattern : goal.invariant-loop-pattern
invariant-loop-pattern l = AreShort (map (λ pattern. pattern.now) (take l.pattern-index l.patterns))
