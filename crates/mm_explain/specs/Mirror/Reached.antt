-- What the code knows on its way to the theorem with a label, and of what it finds there. This file
-- mirrors the code, and is cited by private contracts alone.
use Rattle.std.specs.Prelude.{◌≡◌, ℕ, List, [], ◌∷◌, ◌++◌, length, Bool, true, false}
use Rattle.std.specs.Prelude.{Option, Some, None}
use Rattle.mm_text.specs.Files.{PlainFile}
use Rattle.mm_text.specs.Remaining.{Remaining}
use Rattle.mm_base.specs.Statement.{PlainStatement, plain_statement, HasForm}
use Rattle.mm_frame.specs.Rules.{AllMeant}
use Rattle.mm_frame.specs.Sentence.{Sentence}
use Rattle.mm_frame.specs.Taken.{TakenAs}
use Rattle.mm_frame.specs.declared.answer.Taken.{Taken}
use Rattle.mm_step.specs.declared.profile.Profile.TheVariants.{Lenient}
use Rattle.mm_proof.specs.declared.prover.Proved.{Proved}
use Rattle.mm_proof.specs.declared.prover.Proved.TheVariants as proved
use Rattle.mm_proof.specs.Tokens.{is_incomplete}
use Rattle.mm_proof.specs.UnderProfile.{IsProvedUnder, IsPrefixAllowedUnder}
use Rattle.mm_rules.specs.declared.fault.CheckFault.TheVariants as check
use Rattle.mm_rules.specs.declared.fault.Stop.{Stop}
use Rattle.mm_rules.specs.declared.fault.Stop.TheVariants as stop
use Rattle.mm_rules.specs.declared.progress.Progress.{Progress}
use Rattle.mm_explain.specs.declared.read_to.Reached.{Reached}
use Rattle.mm_explain.specs.declared.read_to.Unreached.{Unreached}
use Rattle.mm_explain.specs.declared.read_to.Unreached.TheVariants.{Check, Ask}
use Rattle.mm_rules.specs.declared.rule.AskRule.TheVariants.{A1}
use Rattle.mm_verdict.specs.Alone.{LackLabel, IsReadTo, IsRefusedBefore, IsNoTheorem, IsTheoremAt}
use Rattle.mm_rules.specs.Answer.{plain_refusal}
use Rattle.mm_verdict.specs.Mirror.Judged.{HasTaken, IsRead}
use Rattle.mm_rules.specs.Mirror.Judged.{IsLastProof}
use Rattle.mm_rules.specs.Verdict.{HasVerdict, Load, sentences}

-- the statements so far break no rule of meaning, and none of them has the label
pub record IsSeeking (files : List PlainFile) (label : List ℕ) (p : Progress)
    (left : Remaining) : Type 0 where
  pub read : IsRead files p left
  pub lack : LackLabel label read.earlier
  pub meant : AllMeant (sentences read.earlier)

-- the statement with the label is read and taken
pub record IsFound (files : List PlainFile) (label : List ℕ) (taken : Taken) (p : Progress)
    (s : PlainStatement) : Type 0 where
  pub before : List PlainStatement
  pub at : IsReadTo files label before s
  pub has : HasTaken (before ++ s ∷ []) p
  pub formed : HasForm s
  pub kind : TakenAs (sentences before) s.kind taken

-- the statement that was sought is found, or no statement has the label
abbrev pub EndsSeeking : List PlainFile → (label : List ℕ) → Option Taken → Progress
    → PlainStatement → Type 0
EndsSeeking files label (Some taken) p s = IsFound files label taken p s
EndsSeeking files label None p s = IsNoTheorem files label A1

-- the files are refused before; or memory ran out
abbrev pub StopsBefore : List PlainFile → (label : List ℕ) → Stop → Type 0
StopsBefore files label (stop.Refused refusal) =
    IsRefusedBefore files label (plain_refusal refusal)
StopsBefore files label stop.Memory = Unit {0}

-- the theorem with the label is reached, and the book has what stands before it, and it
pub record HasReached (files : List PlainFile) (label : List ℕ) (r : Reached) : Type 0 where
  pub before : List PlainStatement
  pub at : IsTheoremAt files label before (plain_statement r.statement)
  pub book : r.book.statements ≡ sentences (before ++ plain_statement r.statement ∷ [])
  pub count : r.before ≡ length before
  pub formed : HasForm (plain_statement r.statement)
  pub last : IsLastProof r.book.statements r.id.0 (plain_statement r.statement)

-- no theorem is reached
abbrev pub IsUnreached : List PlainFile → (label : List ℕ) → Unreached → Type 0
IsUnreached files label (Check (check.Load rule)) = HasVerdict Lenient files (Load rule)
IsUnreached files label (Check (check.Refused refusal)) =
    IsRefusedBefore files label (plain_refusal refusal)
IsUnreached files label (Check check.Memory) = Unit {0}
IsUnreached files label (Ask rule) = IsNoTheorem files label rule

-- what tokens are called that pass, by whether they are incomplete
abbrev pub tried_as : Bool → Proved
tried_as true = proved.Incomplete
tried_as false = proved.Complete

-- the tokens are a proof; or they are incomplete, and their known prefix breaks no rule
abbrev pub AreTried : (before : List Sentence) → Sentence → (tokens : List (List ℕ)) → Proved
    → Type 0
AreTried before s tokens proved.Complete =
    (is_incomplete tokens ≡ false) × IsProvedUnder Lenient before s tokens
AreTried before s tokens proved.Incomplete =
    (is_incomplete tokens ≡ true) × IsPrefixAllowedUnder Lenient before s tokens
