-- The small text of its steps is that of the theorem.
use Rattle.std.proofs.Common.{ap, ◌∙◌}
use Rattle.std.proofs.lemmas.Result.{IfOk-weaker}
use Rattle.mm_rules.specs.Conclusion.{Conclusion}
use Rattle.mm_render.specs.Forms.{IsSmallText}
use Rattle.mm_render.proofs.ToldProofs.ToldTrees.{told_of_tree}
use Rattle.mm_render.proofs.asked_texts.small_form.Goals as goal

pub small_text-requires : goal.small_text-requires
small_text-requires c =
    rw (ap (λ (v : Conclusion). v.sentences) c.checked.view_is) c.in_ok-theorem.ensures.theorem

pub returns-clause-text : goal.returns-clause-text
returns-clause-text c =
    let told = ap (λ (v : Conclusion). v.sentences) c.checked.view_is in
    IfOk-weaker c.small_text.result _ _
    (λ text laid statements reads.
    let read = c.in_ok-theorem.ensures.read statements reads in
    told_of_tree _ _ _ _ c.in_ok-theorem.theorem.steps (told ∙ read.0) read.1
    (rw told c.in_ok-theorem.ensures.theorem.1)
    (λ before s trees. IsSmallText before s trees text.items) laid)
    c.small_text.ensures.text
