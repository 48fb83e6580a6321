-- The tokens so far, joined.
use Rattle.std.proofs.Common.{◌≡◌, take, flat_map}
use Rattle.mm_step.specs.Plain.{token_texts}
use Rattle.mm_places.proofs.whole_places.joined.Given as goal

abbrev pub invariant-loop-token : goal.invariant-loop-token
invariant-loop-token l =
    l.text.items ≡ flat_map (λ p. p) (take l.token-index (token_texts l.tokens))
