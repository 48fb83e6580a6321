use Rattle.std.proofs.Common.{take, Contains}
use Rattle.mm_proof.specs.Tokens.{closing_token}
use Rattle.mm_step.specs.Plain.{token_texts}
use Rattle.mm_proof.proofs.parse.closing_index.Given as goal

abbrev pub invariant-loop-index : goal.invariant-loop-index
invariant-loop-index l = ¬ (Contains (take l.index (token_texts l.tokens)) closing_token)
