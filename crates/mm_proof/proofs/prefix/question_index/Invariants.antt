use Rattle.std.proofs.Common.{◌≡◌, ℕ, ◌<◌, get_or, false}
use Rattle.mm_proof.specs.Tokens.{is_question}
use Rattle.mm_proof.proofs.prefix.question_index.Given as goal

abbrev pub invariant-loop-index : goal.invariant-loop-index
invariant-loop-index l = (k : ℕ) → k < l.index → is_question (get_or l.text k 0) ≡ false
