-- What is known of a visitor on the way through a database. This file mirrors the code, and is
-- cited by private contracts alone.
use Rattle.std.specs.Prelude.{◌≡◌, List, [], ◌∷◌, ◌++◌, false, ◌⊎◌}
use Rattle.mm_base.specs.Statement.{PlainStatement}
use Rattle.mm_text.specs.Files.{PlainFile}
use Rattle.mm_text.specs.Remaining.{Remaining}
use Rattle.mm_step.specs.declared.profile.Profile.{Profile}
use Rattle.mm_rules.specs.declared.fault.CheckFault.{CheckFault}
use Rattle.mm_rules.specs.declared.fault.CheckFault.TheVariants as check
use Rattle.mm_rules.specs.declared.progress.Progress.{Progress}
use Rattle.mm_rules.specs.Verdict.{PlainRefusal, HasVerdict, Load}
use Rattle.mm_rules.specs.Answer.{plain_refusal}
use Rattle.mm_verdict.specs.Faults.{HaveFaults}
use Rattle.mm_verdict.specs.Why.{is_of_proofs}
use Rattle.mm_verdict.specs.Mirror.Judged.{IsAtEnd, IsUnderWay}
use Rattle.mm_rules.specs.Mirror.Visits.{Seeing}

-- ---- the statements

-- each of the statements so far obeys the rules or is listed, and the visitor has seen them
pub record IsVisiting {V : Type 0} (has_seen : Seeing V) (profile : Profile)
    (files : List PlainFile) (first now : V) (p : Progress) (left : Remaining) : Type 0 where
  pub listed : List PlainRefusal
  pub way : IsUnderWay profile files p left listed
  pub seen : has_seen profile files first now way.read.earlier listed

-- The visitor has seen all statements, and the text has no fault: the refusals listed are all.
-- Where there are none, the files are accepted.
pub record HasVisited {V : Type 0} (has_seen : Seeing V) (profile : Profile)
    (files : List PlainFile) (first now : V) (p : Progress) : Type 0 where
  pub statements : List PlainStatement
  pub listed : List PlainRefusal
  pub seen : has_seen profile files first now statements listed
  pub faults : HaveFaults profile files listed
  pub clean : listed ≡ []
      → (end : IsAtEnd profile files p) × (end.statements ≡ statements)

-- The visitor has seen the statements up to one, or to the end, and this is the refusal that comes
-- next after those listed. Others come after it only where the visitor stopped; else it isn't one
-- of a proof.
pub record HasMetFault {V : Type 0} (has_seen : Seeing V) (may_stop : Type 0) (profile : Profile)
    (files : List PlainFile) (first now : V) (refusal : PlainRefusal) : Type 0 where
  pub taken : List PlainStatement
  pub listed : List PlainRefusal
  pub others : List PlainRefusal
  pub seen : has_seen profile files first now taken listed
  pub faults : HaveFaults profile files (listed ++ refusal ∷ others)
  pub rest : may_stop ⊎ (others ≡ [])
  pub kind : may_stop ⊎ (is_of_proofs refusal.rule ≡ false)

-- the files can't be taken; or this is where it ends; or memory ran out
abbrev pub HasStopped : {V : Type 0} → Seeing V → (may_stop : Type 0) → Profile → List PlainFile
    → (first now : V) → CheckFault → Type 0
HasStopped has_seen may_stop profile files first now (check.Load rule) =
    HasVerdict profile files (Load rule)
HasStopped has_seen may_stop profile files first now (check.Refused refusal) =
    HasMetFault has_seen may_stop profile files first now (plain_refusal refusal)
HasStopped has_seen may_stop profile files first now check.Memory = Unit {0}
