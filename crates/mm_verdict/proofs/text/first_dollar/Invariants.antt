-- None of the tokens so far holds one.
use Rattle.std.proofs.Common.{◌≡◌, map, take, None}
use Rattle.mm_base.specs.Token.{plain_token}
use Rattle.mm_rules.specs.ProofText.{first_dollar}
use Rattle.mm_verdict.proofs.text.first_dollar.Given as goal

abbrev pub invariant-loop-token : goal.invariant-loop-token
invariant-loop-token l = first_dollar (map plain_token (take l.token-index l.tokens)) ≡ None
