use Rattle.std.proofs.Common.{◌≢◌, take}
use Rattle.std.specs.List.{AllByRecursion}
use Rattle.mm_help.proofs.explain.rule_with.Given as goal

-- No rule so far has the code.
abbrev pub invariant-loop-rule : goal.invariant-loop-rule
invariant-loop-rule l = AllByRecursion (λ rule. rule.code.now ≢ l.code) (take l.rule-index l.rules)
