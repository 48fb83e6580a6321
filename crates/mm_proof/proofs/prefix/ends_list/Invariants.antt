use Rattle.std.proofs.Common.{◌≡◌, take, false}
use Rattle.mm_proof.specs.CheckedPrefix.{ends_list}
use Rattle.mm_step.specs.Plain.{token_texts}
use Rattle.mm_proof.proofs.prefix.ends_list.Given as goal

abbrev pub invariant-loop-token : goal.invariant-loop-token
invariant-loop-token l = ends_list (take l.token-index (token_texts l.tokens)) ≡ false
