-- The reply to `mm diff`, which is this project's own.
use Rattle.std.specs.Prelude.{◌≡◌, ◌⊎◌, ℕ, List, []}
use Rattle.mm_base.specs.Statement.{PlainStatement}
use Rattle.mm_text.specs.Files.{PlainFile}
use Rattle.mm_step.specs.declared.profile.Profile.{Profile}
use Rattle.mm_rules.specs.Verdict.{Verdict, Load, Refused, Incomplete, Yes}
use Rattle.mm_rules.specs.Verdict.{HasVerdict, AreAccepted, unproved_of}
use Rattle.mm_verdict.specs.Reply.{text_of, status_of}
use Rattle.mm_diff.specs.Diff.{TellsChanges}

-- the verdict isn't yes: something is at fault, or a proof is incomplete
abbrev pub IsRefusal : Verdict → Type 0
IsRefusal (Load rule) = Unit {0}
IsRefusal (Refused refusal) = Unit {0}
IsRefusal (Incomplete labels) = Unit {0}
IsRefusal (Yes statements proofs) = ⊥

-- The files don't get yes in the profile, and this is the text and the status of the reply to
-- `check`.
pub record AreRefused (profile : Profile) (files : List PlainFile) (text : List ℕ)
    (status : ℕ) : Type 0 where
  pub verdict : Verdict
  pub holds : HasVerdict profile files verdict
  pub refuses : IsRefusal verdict
  pub said : text ≡ text_of files verdict
  pub ends : status ≡ status_of verdict

-- The files get yes in the profile, and hold these statements.
abbrev pub HaveYes : Profile → List PlainFile → List PlainStatement → Type 0
HaveYes profile files statements =
    AreAccepted profile files statements × (unproved_of statements ≡ [])

-- The reply over the new files, where these are the statements of the old ones: what changed, where
-- the new ones get yes in the profile; else that of `check` for them.
abbrev pub IsReplyBeside : Profile → (before : List PlainStatement) → (new : List PlainFile)
    → (text : List ℕ) → (status : ℕ) → Type 0
IsReplyBeside profile before new text status =
    AreRefused profile new text status
    ⊎ ((after : List PlainStatement) × HaveYes profile new after
    × TellsChanges before after text status)

-- The reply: where the old files don't get yes, that of `check` for them; else that over the new
-- ones.
abbrev pub IsDiffReply : Profile → (old new : List PlainFile) → (text : List ℕ) → (status : ℕ)
    → Type 0
IsDiffReply profile old new text status =
    AreRefused profile old text status
    ⊎ ((before : List PlainStatement) × HaveYes profile old before
    × IsReplyBeside profile before new text status)
