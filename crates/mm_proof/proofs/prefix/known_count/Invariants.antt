use Rattle.std.proofs.Common.{◌≡◌, ℕ, ◌<◌, [], get_or, false}
use Rattle.mm_proof.specs.Tokens.{is_unknown}
use Rattle.mm_step.specs.Plain.{token_texts}
use Rattle.mm_proof.proofs.prefix.known_count.Given as goal

abbrev pub invariant-loop-index : goal.invariant-loop-index
invariant-loop-index l =
    (k : ℕ) → k < l.index → is_unknown (get_or (token_texts l.tokens) k []) ≡ false
