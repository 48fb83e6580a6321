-- One word more.
use Rattle.std.proofs.Common.{◌∙◌, ◌++◌, ◌∷◌, [], ap, arith, sym, List, ℕ}
use Rattle.std.proofs.lemmas.List.FromFn.{map-range_with_len_more}
use Rattle.mm_mend.specs.declared.change.Change.{Change}
use Rattle.mm_mend.specs.declared.change.Change.TheVariants.{Words}
use Rattle.mm_mend.proofs.tried.words_tried.Goals as goal

pub loop-at-preserved : goal.loop-at-preserved
loop-at-preserved c =
    let f : ℕ → Change = λ at. Words at in
    c.in_ok-push.ensures.items
    ∙ ap (λ (l : List Change). l ++ Words c.loop-at.at ∷ []) c.loop-at.invariant
    ∙ sym (map-range_with_len_more f 0 c.loop-at.at c.loop-at.at (omega arith))
