use Rattle.std.proofs.Common.{◌≢◌, take}
use Rattle.std.specs.List.{AllByRecursion}
use Rattle.mm_help.specs.Explained.{rules_in}
use Rattle.mm_help.proofs.explain.rule_among.Given as goal

-- No rule of the chapters so far has the code.
abbrev pub invariant-loop-chapter : goal.invariant-loop-chapter
invariant-loop-chapter l =
    AllByRecursion (λ rule. rule.code.now ≢ l.code) (rules_in (take l.chapter-index l.chapters))
