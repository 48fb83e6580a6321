-- None of the tokens so far holds one.
use Rattle.std.proofs.Common.{◌≡◌, false, take}
use Rattle.mm_step.specs.Plain.{token_texts}
use Rattle.mm_rules.specs.Compared.{hold_dollar}
use Rattle.mm_verdict.proofs.bare.any_dollar.Given as goal

abbrev pub invariant-loop-token : goal.invariant-loop-token
invariant-loop-token l = hold_dollar (token_texts (take l.token-index l.tokens)) ≡ false
