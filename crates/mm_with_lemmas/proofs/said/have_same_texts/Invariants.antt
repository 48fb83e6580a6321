-- The texts so far are the same.
use Rattle.std.proofs.Common.{◌≡◌, take}
use Rattle.mm_step.specs.Plain.{token_texts}
use Rattle.mm_with_lemmas.proofs.said.have_same_texts.Given as goal

abbrev pub invariant-loop-at : goal.invariant-loop-at
invariant-loop-at l = token_texts (take l.at l.tokens) ≡ token_texts (take l.at l.others)
