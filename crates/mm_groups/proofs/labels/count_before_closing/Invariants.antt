-- None of the tokens so far is `)`.
use Rattle.std.proofs.Common.{◌≡◌, ℕ, ◌<◌, [], get_or, false}
use Rattle.mm_step.specs.Plain.{token_texts}
use Rattle.mm_groups.specs.Shared.{is_closing}
use Rattle.mm_groups.proofs.labels.count_before_closing.Given as goal

abbrev pub invariant-loop-index : goal.invariant-loop-index
invariant-loop-index l =
    (k : ℕ) → k < l.index → is_closing (get_or (token_texts l.tokens) k []) ≡ false
