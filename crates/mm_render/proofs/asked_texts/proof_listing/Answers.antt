-- The text of the listing of its steps is that of the theorem.
use Rattle.std.proofs.Common.{ap, ◌∙◌}
use Rattle.std.proofs.lemmas.Result.{IfOk-weaker}
use Rattle.mm_rules.specs.Conclusion.{Conclusion}
use Rattle.mm_render.proofs.ToldProofs.ToldTrees.{shown_of}
use Rattle.mm_render.proofs.asked_texts.proof_listing.Goals as goal

pub listing_text-requires : goal.listing_text-requires
listing_text-requires c =
    rw (ap (λ (v : Conclusion). v.sentences) c.checked.view_is) c.in_ok-theorem.ensures.theorem

pub returns-clause-shown : goal.returns-clause-shown
returns-clause-shown c =
    let told = ap (λ (v : Conclusion). v.sentences) c.checked.view_is in
    IfOk-weaker c.listing_text.result _ _
    (λ text laid statements reads.
    let read = c.in_ok-theorem.ensures.read statements reads in
    shown_of _ _ _ _ c.in_ok-theorem.theorem.steps.moves text.items (told ∙ read.0) read.1 laid)
    c.listing_text.ensures.text
