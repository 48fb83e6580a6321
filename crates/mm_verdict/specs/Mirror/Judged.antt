-- What checking has come to, and what is answered of one statement and of the text's end. This file
-- mirrors the code, and is cited by private contracts alone.
use Rattle.std.specs.Prelude.{◌≡◌, ◌≤◌, List, [], ◌∷◌, ◌++◌, map, length, sum_by}
use Rattle.std.specs.Prelude.{slice_get, Bool, true, false, Option, Some, None}
use Rattle.std.specs.Prelude.{◌⊎◌}
use Rattle.mm_text.specs.declared.fault.LoadRule.{LoadRule}
use Rattle.mm_base.specs.Statement.{PlainStatement, HasForm, bytes_in}
use Rattle.mm_text.specs.Files.{PlainFile, BreaksLoad}
use Rattle.mm_text.specs.Reading.{PlainFault, Reads}
use Rattle.mm_text.specs.Remaining.{Remaining}
use Rattle.mm_frame.specs.Rules.{AllMeant}
use Rattle.mm_step.specs.declared.profile.Profile.{Profile}
use Rattle.mm_rules.specs.declared.fault.CheckFault.{CheckFault}
use Rattle.mm_rules.specs.declared.fault.CheckFault.TheVariants as check
use Rattle.mm_rules.specs.declared.fault.Stop.{Stop}
use Rattle.mm_rules.specs.declared.fault.Stop.TheVariants as stop
use Rattle.mm_rules.specs.declared.judge.Judged.{Judged}
use Rattle.mm_rules.specs.declared.progress.Progress.{Progress}
use Rattle.mm_rules.specs.declared.rule.Rule.TheVariants as rules
use Rattle.mm_rules.specs.Verdict.{Verdict, HasVerdict, AllObey, AreAccepted, PlainRefusal}
use Rattle.mm_rules.specs.Verdict.{CanBeRead, text_refusal}
use Rattle.mm_rules.specs.Verdict.{sentences, proofs_of, labels_of, unproved_of}
use Rattle.mm_rules.specs.Verdict.{is_unproved}
use Rattle.mm_rules.specs.Answer.{verdict_of_fault, plain_refusal}
use Rattle.mm_verdict.specs.Faults.{AreRefused}
use Rattle.mm_rules.specs.Rests.{IsNumberWhere, AreInOrder, AreUses}
use Rattle.mm_rules.specs.Mirror.Judged.{IsTaken, RefusesMeaning}

-- No statement is left, and the text's fault is answered; or memory ran out.
abbrev pub RefusesEnd : List PlainFile → Remaining → Stop → Type 0
RefusesEnd files left (stop.Refused refusal) =
    (left.statements ≡ []) × (at : PlainFault) × (left.ending ≡ Some at)
    × (plain_refusal refusal ≡ text_refusal files at)
RefusesEnd files left stop.Memory = Unit {0}

-- The files break this rule as a whole; or memory ran out. No statement is refused.
abbrev pub RefusesLoad : List PlainFile → CheckFault → Type 0
RefusesLoad files (check.Load rule) =
    (broken : LoadRule) × BreaksLoad files broken × (rule ≡ rules.Load broken)
RefusesLoad files (check.Refused refusal) = ⊥
RefusesLoad files check.Memory = Unit {0}

-- The next statement was taken from what is left; or there is none, and no fault.
abbrev pub TakesNext : Remaining → Bool → PlainStatement → Remaining → Type 0
TakesNext old true s new =
    (old.statements ≡ s ∷ new.statements) × (new ≡ record old { statements = new.statements })
TakesNext old false s new =
    (old.statements ≡ []) × (old.ending ≡ None) × (new ≡ record old { told = true })

-- what the progress has of the statements so far, whatever their proofs
pub record HasTaken (statements : List PlainStatement) (p : Progress) : Type 0 where
  pub book : p.prover.book.statements ≡ sentences statements
  pub bytes : p.prover.book.bytes ≡ sum_by bytes_in statements
  pub count : p.count ≡ length statements
  pub proofs : p.proofs ≤ length statements

-- what it knows of them where all of them obey the rules
pub record Knows (statements : List PlainStatement) (p : Progress) : Type 0 where
  pub proofs : p.proofs ≡ proofs_of statements
  pub incomplete : map (λ id. slice_get (labels_of statements) id.0) p.incomplete.items
      ≡ map Some (unproved_of statements)
  pub noted : AreInOrder (IsNumberWhere statements (λ s. is_unproved s ≡ true))
      (map (λ id. id.0) p.incomplete.items)
  pub kept : AreUses statements p.kept

-- The statements so far and those that are left are the reading of the files, and the progress has
-- those so far, and counts the lines of these files. Of their proofs nothing is known.
pub record IsRead (files : List PlainFile) (p : Progress) (left : Remaining) : Type 0 where
  pub earlier : List PlainStatement
  pub readable : CanBeRead files
  pub reads : Reads files (earlier ++ left.statements) left.ending
  pub taken : HasTaken earlier p
  pub lines : p.lines ≡ files

-- What reading and judging the next statement came to; nothing where there is none.
abbrev pub Turns : Profile → List PlainFile → (old : Progress) → Remaining → Option Judged
    → PlainStatement → (new : Progress) → Remaining → Type 0
Turns profile files old left None s new rest = TakesNext left false s rest × (new ≡ old)
Turns profile files old left (Some judged) s new rest =
    TakesNext left true s rest × HasForm s × IsTaken profile files old s judged new

-- The fault of the text is answered, or the rule of meaning that the next statement breaks; or
-- memory ran out.
abbrev pub StopsTurn : List PlainFile → Progress → Remaining → Stop → Type 0
StopsTurn files p left stop =
    RefusesEnd files left stop
    ⊎ ((s : PlainStatement) × (rest : Remaining) × TakesNext left true s rest
    × RefusesMeaning files p.prover.book.statements p.count s stop)

-- With those of the statements that are left, after these earlier ones, the refusals listed are
-- all: each of the earlier statements obeys the rules or is listed.
abbrev pub Begins : Profile → List PlainFile → (earlier left : List PlainStatement)
    → Option PlainFault → List PlainRefusal → Type 0
Begins profile files earlier left ending listed =
    (later : List PlainRefusal) → AreRefused profile files earlier left ending later
    → AreRefused profile files [] (earlier ++ left) ending (listed ++ later)

-- The statements so far are read, and none breaks a rule of meaning. Those whose proofs are at
-- fault are listed; where there are none, all obey the rules, and the progress knows them.
pub record IsUnderWay (profile : Profile) (files : List PlainFile) (p : Progress) (left : Remaining)
    (listed : List PlainRefusal) : Type 0 where
  pub read : IsRead files p left
  pub meant : AllMeant (sentences read.earlier)
  pub begins : Begins profile files read.earlier left.statements left.ending listed
  pub obeyed : listed ≡ [] → AllObey profile read.earlier
  pub known : listed ≡ [] → Knows read.earlier p

-- The statements of the files are accepted, and the progress has them and knows them.
pub record IsAtEnd (profile : Profile) (files : List PlainFile) (p : Progress) : Type 0 where
  pub statements : List PlainStatement
  pub accepted : AreAccepted profile files statements
  pub taken : HasTaken statements p
  pub known : Knows statements p

-- The verdict that the fault tells holds of the files; lack of memory tells none.
abbrev pub TellsVerdict : Profile → List PlainFile → CheckFault → Type 0
TellsVerdict profile files fault =
    (verdict : Verdict) → verdict_of_fault fault ≡ Some verdict → HasVerdict profile files verdict
