use Rattle.std.proofs.Common.{◌≡◌, take, false}
use Rattle.mm_proof.specs.Tokens.{is_incomplete}
use Rattle.mm_step.specs.Plain.{token_texts}
use Rattle.mm_proof.proofs.parse.is_incomplete.Given as goal

abbrev pub invariant-loop-token : goal.invariant-loop-token
invariant-loop-token l = is_incomplete (take l.token-index (token_texts l.tokens)) ≡ false
