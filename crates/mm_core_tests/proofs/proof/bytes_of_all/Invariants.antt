-- The bytes so far are those of the tokens so far.
use Rattle.std.proofs.Common.{◌≡◌, length, take}
use Rattle.std.specs.List.{sum_by}
use Rattle.mm_core_tests.proofs.proof.bytes_of_all.Given as goal

abbrev pub invariant-loop-token : goal.invariant-loop-token
invariant-loop-token l = l.bytes ≡ sum_by (λ t. length t.text.now) (take l.token-index l.tokens)
