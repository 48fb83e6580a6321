-- The files are refused, or what is asked is answered over their statements.
use Rattle.std.proofs.Common.{◌≡◌, List, map}
use Rattle.std.proofs.lemmas.Result.{IfOk-weaker}
use Rattle.mm_text.specs.Files.{PlainFile, plain_file}
use Rattle.mm_rules.specs.Conclusion.{Conclusion}
use Rattle.mm_rules.specs.Answer.{KeepsFiles, KeepsLabels}
use Rattle.mm_check.specs.Asked.{IsAnswerOver}
use Rattle.mm_verdict.proofs.ReplyTexts.{made_both, at_ok}
use Rattle.mm_check.proofs.AnswersTold.{question_read, question_refused}
use Rattle.mm_check.proofs.accepted.answer_or_verdict.Goals as goal

pub answer_over-requires-clause-files : goal.answer_over-requires-clause-files
answer_over-requires-clause-files g c =
    at_ok c.args.answer.now c.in-Ok.checked (KeepsFiles (map plain_file c.args.files.now))
    c.in-Ok.is c.requires.files

pub answer_over-requires-clause-labels : goal.answer_over-requires-clause-labels
answer_over-requires-clause-labels g c =
    let files : List PlainFile = map plain_file c.args.files.now in
    let kept : Conclusion = c.in-Ok.checked in
    let same : kept.files ≡ files =
    at_ok c.args.answer.now kept (KeepsFiles files) c.in-Ok.is c.requires.files in
    rw same (at_ok c.args.answer.now kept (KeepsLabels files) c.in-Ok.is c.requires.labels)

pub returns-in-Ok : goal.returns-in-Ok
returns-in-Ok g c =
    let files : List PlainFile = map plain_file c.args.files.now in
    let kept : Conclusion = c.in-Ok.checked in
    IfOk-weaker c.answer_over.result _ _
    (λ reply answers profile under holds. question_read profile files c.args.answer.now kept
    (λ p fs. IsAnswerOver c.args.asked p fs) _ _ c.in-Ok.is holds
    (at_ok c.args.answer.now kept (KeepsFiles files) c.in-Ok.is c.requires.files)
    (at_ok c.args.answer.now kept (λ k. k.profile ≡ profile) c.in-Ok.is under) answers)
    c.answer_over.ensures

pub returns-in-Err : goal.returns-in-Err
returns-in-Err g c =
    let files : List PlainFile = map plain_file c.args.files.now in
    made_both c.verdict_reply.result _ _ _
    (λ reply said ends profile under holds. question_refused profile files c.args.answer.now
    c.in-Err.field-0 (IsAnswerOver c.args.asked profile files) _ _ c.in-Err.is holds said ends)
    c.verdict_reply.ensures.text c.verdict_reply.ensures.status
