-- The fault of saving is told, or the files are refused.
use Rattle.std.proofs.Common.{List, Err, map, refl, inl, inr}
use Rattle.std.proofs.lemmas.Result.{IfOk-weaker}
use Rattle.mm_text.specs.Files.{PlainFile, plain_file}
use Rattle.mm_step.specs.declared.profile.Profile.TheVariants.{Lenient}
use Rattle.mm_rules.specs.declared.ask.AskFault.{AskFault}
use Rattle.mm_rules.specs.declared.fault.CheckFault.{CheckFault}
use Rattle.mm_check.specs.Reply.{IsAllSavedReply}
use Rattle.mm_verdict.proofs.ReplyTexts.{made_both}
use Rattle.mm_check.proofs.AnswersTold.{question_refused}
use Rattle.mm_check.proofs.whole.all_saved_reply.Goals as goal

pub returns-in-Err-Ask : goal.returns-in-Err-Ask
returns-in-Err-Ask c =
    let files : List PlainFile = map plain_file c.args.files.now in
    let why : AskFault = c.in-Err-Ask.fault in
    let told = rw c.in-Err-Ask.field-0-is at c.in-Err-Ask.ensures.fault in
    IfOk-weaker c.ask_reply-in-Err-Ask.result _ _
    (λ reply h. inr (
      told.0,
      told.1,
      inr (inl (why, told.2, rw c.name_of.ensures at h)),
    ))
    c.ask_reply-in-Err-Ask.ensures

pub returns-in-Err-Check : goal.returns-in-Err-Check
returns-in-Err-Check c =
    let files : List PlainFile = map plain_file c.args.files.now in
    let why : CheckFault = c.in-Err-Check.fault in
    let told = rw c.in-Err-Check.field-0-is at c.in-Err-Check.ensures.fault in
    made_both c.fault_reply.result _ _ _
    (λ reply said ends. question_refused Lenient files (Err why) why
    (IsAllSavedReply c.args.form files c.args.number) _ _ refl told said ends)
    c.fault_reply.ensures.text c.fault_reply.ensures.status
