-- The book says what the statements say.
use Rattle.std.proofs.Common.{List, ap, subst}
use Rattle.std.proofs.lemmas.Result.{IfOk-weaker}
use Rattle.mm_frame.specs.Sentence.{Sentence}
use Rattle.mm_verdict.specs.declared.form.Form.TheVariants.{Small}
use Rattle.mm_rules.specs.Conclusion.{Conclusion}
use Rattle.mm_render.specs.Mirror.Rewriting.{IsSpanTextOf}
use Rattle.mm_render.proofs.asked_texts.small_span_text.Goals as goal

pub span_text-requires : goal.span_text-requires
span_text-requires c =
    rw (ap (λ (v : Conclusion). v.sentences) c.checked.view_is) c.requires

pub returns-clause-put : goal.returns-clause-put
returns-clause-put c =
    IfOk-weaker c.span_text.result _ _
    (λ put laid. subst (λ (ss : List Sentence). IsSpanTextOf Small ss c.args.theorem.now.id.0
    c.args.theorem.now.steps.moves c.args.old.now put.items)
    (ap (λ (v : Conclusion). v.sentences) c.checked.view_is) laid)
    c.span_text.ensures.put
