-- Nothing is kept.
use Rattle.mm_with_lemmas.proofs.proof_text.are_others.Given as goal

abbrev pub invariant-loop-at : goal.invariant-loop-at
invariant-loop-at l = Unit {0}
