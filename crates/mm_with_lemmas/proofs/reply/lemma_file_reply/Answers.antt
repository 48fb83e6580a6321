-- The files are refused, or the answer is over their statements.
use Rattle.std.proofs.Common.{List, map, None, inl, inr, refl, subst, sym}
use Rattle.std.proofs.lemmas.Result.{IfOk-weaker}
use Rattle.mm_text.specs.Files.{PlainFile, plain_file}
use Rattle.mm_text.specs.Reading.{Reads}
use Rattle.mm_step.specs.declared.profile.Profile.TheVariants.{Lenient}
use Rattle.mm_rules.specs.Answer.{verdict_of_conclusion}
use Rattle.mm_rules.specs.Conclusion.{Conclusion}
use Rattle.mm_rules.specs.Status.{number_of}
use Rattle.mm_rules.specs.Verdict.{HasVerdict}
use Rattle.mm_verdict.proofs.ReplyTexts.{accepted_with}
use Rattle.mm_with_lemmas.specs.Reply.{IsFileAnswer}
use Rattle.mm_with_lemmas.proofs.reply.lemma_file_reply.Goals as goal

pub returns-in-Ok : goal.returns-in-Ok
returns-in-Ok g c =
    let checked : Conclusion = c.in-Ok.checked in
    let has = c.in-Ok.ensures.verdict (verdict_of_conclusion checked) refl in
    let (statements, accepted) =
    accepted_with Lenient (map plain_file c.args.files.now) checked checked.incomplete has in
    let has_too = subst (λ (fs : List PlainFile).
    HasVerdict Lenient fs (verdict_of_conclusion checked)) (sym c.in-Ok.ensures.files) has in
    let reads = subst (λ (fs : List PlainFile). Reads fs statements None) (sym c.in-Ok.ensures.files)
    accepted.reads in
    IfOk-weaker c.answer_over-told.result _ _
    (λ told answer. inr (
      statements,
      accepted,
      subst (λ (fs : List PlainFile). IsFileAnswer fs statements c.args.wish.number
          told.reply.text.items (number_of told.reply.status) told.note.items) c.in-Ok.ensures.files
          (answer statements reads has_too),
    ))
    c.answer_over-told.ensures

pub refused_reply-requires : goal.refused_reply-requires
refused_reply-requires g c = c.in-Err.ensures.verdict

pub returns-in-Err : goal.returns-in-Err
returns-in-Err g c =
    IfOk-weaker c.refused_reply.result _ _ (λ told refused. inl refused) c.refused_reply.ensures
