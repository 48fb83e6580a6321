-- All patterns are without a `$*` where those are that are left.
use Rattle.std.proofs.Common.{◌↔◌, drop, map}
use Rattle.std.specs.List.{AllByRecursion}
use Rattle.mm_words.specs.Words.{IsGapless}
use Rattle.mm_words.proofs.find_request.are_gapless.Given as goal

abbrev pub invariant-loop-pattern : goal.invariant-loop-pattern
invariant-loop-pattern l =
    AllByRecursion IsGapless (map (λ pattern. pattern.now) l.patterns)
    ↔ AllByRecursion IsGapless (map (λ pattern. pattern.now) (drop l.pattern-index l.patterns))
