-- The tokens so far pass.
use Rattle.std.proofs.Common.{◌≡◌, true, take}
use Rattle.mm_step.specs.Plain.{token_texts}
use Rattle.mm_rules.specs.Compared.{are_printable}
use Rattle.mm_verdict.proofs.bare.all_printable.Given as goal

abbrev pub invariant-loop-token : goal.invariant-loop-token
invariant-loop-token l = are_printable (token_texts (take l.token-index l.tokens)) ≡ true
