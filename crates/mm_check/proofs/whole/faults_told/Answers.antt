-- What is told is the rule that the files break as a whole, or all refusals.
use Rattle.std.proofs.Common.{map, refl, inl}
use Rattle.mm_text.specs.Files.{plain_file}
use Rattle.mm_rules.specs.Verdict.{Load}
use Rattle.mm_verdict.proofs.ReplyTexts.{made_both}
use Rattle.mm_check.proofs.AnswersTold.{told_all}
use Rattle.mm_check.proofs.whole.faults_told.Goals as goal

pub returns-in-Load : goal.returns-in-Load
returns-in-Load c =
    made_both c.fault_reply.result _ _ _
    (λ reply said ends profile faults. inl (
      Load c.in-Load.rule,
      rw c.in-Load.is at faults,
      refl,
      said,
      ends,
    ))
    c.fault_reply.ensures.text c.fault_reply.ensures.status

pub returns-in-Refused : goal.returns-in-Refused
returns-in-Refused c =
    made_both c.refusals_reply.result _ _ _
    (λ reply said ends profile faults.
    let told = rw c.in-Refused.is at faults in
    told_all profile (map plain_file c.args.files.now) _ c.in-Refused.refusals.items _ _
    c.deref.ensures.value told.0 told.1 said ends)
    c.refusals_reply.ensures.text c.refusals_reply.ensures.status
