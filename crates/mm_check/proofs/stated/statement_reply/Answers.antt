-- The statement is told, or why it isn't known.
use Rattle.std.proofs.Common.{◌≡◌, ℕ, List, map, Result, Ok, Err, IfOk, IfSome, inl, inr}
use Rattle.std.proofs.lemmas.Result.{IfOk-weaker}
use Rattle.mm_text.specs.Files.{PlainFile, plain_file}
use Rattle.mm_rules.specs.declared.fault.CheckFault.{CheckFault}
use Rattle.mm_rules.specs.declared.fault.CheckFault.TheVariants as check
use Rattle.mm_rules.specs.Answer.{plain_refusal, verdict_of_fault}
use Rattle.mm_rules.specs.Status.{number_of}
use Rattle.mm_verdict.specs.Reply.{Tells, status_of}
use Rattle.mm_explain.specs.declared.read_to.Unreached.TheVariants.{Check}
use Rattle.mm_explain.specs.Mirror.Reached.{IsUnreached}
use Rattle.mm_explain.specs.Mirror.Stated.{HasStated}
use Rattle.mm_check.specs.Reply.{IsUnreadReply}
use Rattle.mm_check.proofs.stated.statement_reply.Goals as goal

-- what two facts on a result make
both : {A E : Type 0} (r : Result A E) (P Q R : A → Type 0) → ((x : A) → P x → Q x → R x)
    → IfOk r P → IfOk r Q → IfOk r R
both (Ok x) P Q R f p q = f x p q
both (Err e) P Q R f p q = tt

-- why it isn't known is told
fault_told : (files : List PlainFile) (label : List ℕ) (fault : CheckFault) (text : List ℕ)
    (status : ℕ) → IsUnreached files label (Check fault) → Tells files (Err fault) text
    → IfSome (verdict_of_fault fault) (λ verdict. status ≡ status_of verdict)
    → IsUnreadReply files label text status
fault_told files label (check.Load rule) text status has told ends = inl (rule, has, told, ends)
fault_told files label (check.Refused refusal) text status before told ends =
    inr (plain_refusal refusal, before, told, ends)
fault_told files label check.Memory text status unread told ends = absurd told

pub returns-in-Ok-Some : goal.returns-in-Ok-Some
returns-in-Ok-Some c =
    let has : HasStated (map plain_file c.args.files.now) c.args.label.now c.in-Ok-Some.stated =
    rw c.in-Ok-Some.field-0-is at c.in-Ok-Some.ensures.stated in
    IfOk-weaker c.told_reply.result _ _ (λ reply told. inl (told c.args.label.now has))
    c.told_reply.ensures

pub returns-in-Err : goal.returns-in-Err
returns-in-Err c =
    both c.fault_reply.result _ _ _
    (λ reply told ends. inr (inl (fault_told (map plain_file c.args.files.now) c.args.label.now
    c.in-Err.fault reply.text.items (number_of reply.status) c.in-Err.ensures.refused told ends)))
    c.fault_reply.ensures.text c.fault_reply.ensures.status
