use Rattle.std.proofs.Common.{◌≡◌, take}
use Rattle.mm_step.specs.Plain.{token_texts}
use Rattle.mm_code.specs.Layout.{texts}
use Rattle.mm_proof.proofs.parse.fill_texts.Given as goal

abbrev pub invariant-loop-token : goal.invariant-loop-token
invariant-loop-token l = texts l.pieces.items ≡ token_texts (take l.token-index l.tokens)
