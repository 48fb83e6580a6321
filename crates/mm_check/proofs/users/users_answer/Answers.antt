-- The answer is that of the statements that are kept, or of the accepted proofs.
use Rattle.std.proofs.Common.{◌≡◌, List, map, ap, ◌∙◌}
use Rattle.std.proofs.lemmas.Result.{IfOk-weaker}
use Rattle.mm_text.specs.Files.{PlainFile, plain_file}
use Rattle.mm_rules.specs.Conclusion.{Conclusion}
use Rattle.mm_rules.specs.Answer.{KeepsFiles, KeepsLabels, verdict_of_answer}
use Rattle.mm_step.specs.declared.profile.Profile.TheVariants.{Lenient}
use Rattle.mm_verdict.proofs.ReplyTexts.{at_ok}
use Rattle.mm_check.proofs.AnswersTold.{users_read}
use Rattle.mm_check.proofs.users.users_answer.Goals as goal

pub checked_answer-requires : goal.checked_answer-requires
checked_answer-requires g c =
    let files : List PlainFile = map plain_file c.args.files.now in
    let kept : Conclusion = c.in-Ok.checked in
    let same : kept.files ≡ files =
    at_ok c.args.answer.now kept (KeepsFiles files) c.in-Ok.is c.requires.files in
    rw same (at_ok c.args.answer.now kept (KeepsLabels files) c.in-Ok.is c.requires.labels)

pub returns-in-Ok : goal.returns-in-Ok
returns-in-Ok g c =
    let files : List PlainFile = map plain_file c.args.files.now in
    let kept : Conclusion = c.in-Ok.checked in
    IfOk-weaker c.checked_answer.result _ _
    (λ reply answers under holds. users_read c.args.all files c.args.answer.now kept
    c.args.label.now _ _ c.in-Ok.is holds
    (at_ok c.args.answer.now kept (KeepsFiles files) c.in-Ok.is c.requires.files)
    (at_ok c.args.answer.now kept (λ k. k.profile ≡ Lenient) c.in-Ok.is under) answers)
    c.checked_answer.ensures

pub returns-in-Err : goal.returns-in-Err
returns-in-Err g c =
    IfOk-weaker c.answer_beside.result _ _
    (λ reply told under holds. told
    (λ verdict e. holds verdict (ap verdict_of_answer c.in-Err.is ∙ e)))
    c.answer_beside.ensures
