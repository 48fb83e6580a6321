-- The reply to `mm lemmas --all`: of files that are refused.
use Rattle.std.proofs.Common.{◌≡◌, ℕ, List, inl, inr, refl, Some, Err, IfSome}
use Rattle.mm_text.specs.Files.{PlainFile}
use Rattle.mm_step.specs.declared.profile.Profile.TheVariants.{Lenient}
use Rattle.mm_rules.specs.Answer.{plain_refusal, verdict_of_fault}
use Rattle.mm_rules.specs.declared.fault.CheckFault.{CheckFault}
use Rattle.mm_rules.specs.declared.fault.CheckFault.TheVariants as check
use Rattle.mm_rules.specs.Verdict.{HasVerdict, Load, Refused, Verdict}
use Rattle.mm_verdict.specs.Reply.{Tells, status_of}
use Rattle.mm_with_lemmas.specs.Reply.{IsRefusal}

pub refused_files : (files : List PlainFile) (fault : CheckFault) (text : List ℕ) (status : ℕ)
    → ((verdict : Verdict) → verdict_of_fault fault ≡ Some verdict
    → HasVerdict Lenient files verdict)
    → Tells files (Err fault) text
    → IfSome (verdict_of_fault fault) (λ verdict. status ≡ status_of verdict)
    → IsRefusal files text status
refused_files files (check.Load rule) text status holds told ends =
    inl (rule, holds (Load rule) refl, told, ends)
refused_files files (check.Refused refusal) text status holds told ends =
    inr (plain_refusal refusal, holds (Refused (plain_refusal refusal)) refl, told, ends)
refused_files files check.Memory text status holds told ends = absurd told
