use Rattle.std.proofs.Common.{◌≡◌, ◌+◌, length, take}
use Rattle.std.specs.List.{sum_by}
use Rattle.mm_core_tests.proofs.frame.taking.are_short.Given as goal

abbrev pub invariant-loop-token : goal.invariant-loop-token
invariant-loop-token l = l.left + sum_by (λ t. length t.text.now) (take l.token-index l.tokens) ≡ 1000
