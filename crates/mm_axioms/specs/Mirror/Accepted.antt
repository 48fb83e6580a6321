-- What the code knows of accepted proofs on its way through the statements, whatever the other
-- proofs. This file mirrors the code, and is cited by private contracts alone.
use Rattle.std.specs.Prelude.{◌≡◌, ℕ, List, [], ◌∷◌, ◌++◌, length, take, Contains, ◌⊎◌, Bool, true}
use Rattle.std.specs.Prelude.{false, Result, IsOkUnless}
use Rattle.mm_base.specs.Statement.{PlainStatement}
use Rattle.mm_text.specs.Files.{PlainFile}
use Rattle.mm_text.specs.Remaining.{Remaining}
use Rattle.mm_frame.specs.Numbers.{labelled_sentences}
use Rattle.mm_frame.specs.Rules.{AllMeant}
use Rattle.mm_frame.specs.Sentence.{Sentence, sentence_of}
use Rattle.mm_step.specs.Tree.{Trees}
use Rattle.mm_step.specs.declared.profile.Profile.TheVariants.{Lenient}
use Rattle.mm_step.specs.declared.fault.ProofFault.{ProofFault}
use Rattle.mm_step.specs.declared.fault.ProofFault.TheVariants as faults
use Rattle.mm_proof.specs.declared.prover.Proved.{Proved}
use Rattle.mm_proof.specs.UnderProfile.{IsProvedUnder}
use Rattle.mm_proof.specs.Used.{AreUsed}
use Rattle.mm_rules.specs.Conclusion.{ProofUses, numbers_of}
use Rattle.mm_rules.specs.Mirror.Judged.{IsProvedUsing}
use Rattle.mm_rules.specs.Mirror.Ordered.{ordered}
use Rattle.mm_rules.specs.Rests.{AreInOrder, HasTree}
use Rattle.mm_rules.specs.Verdict.{is_proof, proof_of, sentences}
use Rattle.mm_rules.specs.declared.fault.CheckFault.{CheckFault}
use Rattle.mm_rules.specs.declared.fault.CheckFault.TheVariants as check
use Rattle.mm_rules.specs.declared.fault.Stop.{Stop}
use Rattle.mm_rules.specs.declared.fault.Stop.TheVariants as stop
use Rattle.mm_rules.specs.declared.progress.Progress.{Progress}
use Rattle.mm_verdict.specs.Mirror.Judged.{IsRead}
use Rattle.mm_axioms.specs.Accepted.{AreMeant, IsAccepted}

-- ---- one proof

-- the statement, after those before it, is a `$p` whose proof is complete and accepted
abbrev pub HasAccepted : (before : List Sentence) → PlainStatement → Type 0
HasAccepted before s =
    (is_proof s ≡ true) × IsProvedUnder Lenient before (sentence_of s) (proof_of s)

-- where the last statement's proof is right, it is answered to be, unless memory ran out
abbrev pub AcceptsProof : List Sentence → PlainStatement → Result Proved ProofFault → Type 0
AcceptsProof statements s result =
    (before : List Sentence) → statements ≡ before ++ sentence_of s ∷ []
    → IsProvedUnder Lenient before (sentence_of s) (proof_of s)
    → IsOkUnless result faults.Memory

-- the last statement is such a `$p`, and its proof uses these; or it is none
abbrev pub TellsAccepted : List Sentence → PlainStatement → Bool → (used : List ℕ) → Type 0
TellsAccepted statements s true used =
    (before : List Sentence) → statements ≡ before ++ sentence_of s ∷ []
    → (is_proof s ≡ true) × IsProvedUsing Lenient before s used
TellsAccepted statements s false used =
    (before : List Sentence) → statements ≡ before ++ sentence_of s ∷ []
    → ¬ (HasAccepted before s)

-- what the proof of the statement uses is kept, if it is accepted; else nothing is
abbrev pub KeepsAccepted : (before : List Sentence) → PlainStatement → (old new : List ProofUses)
    → Type 0
KeepsAccepted before s old new =
    ((is_proof s ≡ true) × (used : List ℕ) × IsProvedUsing Lenient before s used
    × (new ≡ old
    ++ record { number = length (labelled_sentences before); used = ordered used } ∷ []))
    ⊎ (¬ (HasAccepted before s) × (new ≡ old))

-- ---- all statements

-- these are the uses of all accepted proofs: of each its number, and those of the assertions in its
-- tree
pub record AreAcceptedUses (statements : List PlainStatement) (uses : List ProofUses) : Type 0 where
  pub proofs : AreInOrder (IsAccepted statements) (numbers_of uses)
  pub each : (u : ProofUses) → Contains uses u
      → (index : ℕ) × (t : Trees) × HasTree statements u.number index t
      × AreUsed (sentences (take index statements)) t u.used

-- the statements so far break no rule of meaning, and this is kept of their accepted proofs
pub record IsKeeping (files : List PlainFile) (p : Progress) (left : Remaining)
    (uses : List ProofUses) : Type 0 where
  pub read : IsRead files p left
  pub meant : AllMeant (sentences read.earlier)
  pub kept : AreAcceptedUses read.earlier uses

-- all statements are read, and break no rule of meaning: this is what they say, and what is kept of
-- their accepted proofs
pub record HasKept (files : List PlainFile) (told : List Sentence)
    (uses : List ProofUses) : Type 0 where
  pub statements : List PlainStatement
  pub are_meant : AreMeant files statements
  pub said : told ≡ sentences statements
  pub kept : AreAcceptedUses statements uses

-- the way goes on, with fewer statements left; or it is at its end
abbrev pub KeepsTurn : List PlainFile → (more : Bool) → Progress → Remaining → List ProofUses
    → Type 0
KeepsTurn files true p left uses = IsKeeping files p left uses
KeepsTurn files false p left uses = HasKept files p.prover.book.statements uses

-- ---- faults

-- a rule of the text or of meaning is broken, or memory ran out
abbrev pub StopsKeeping : List PlainFile → Stop → Type 0
StopsKeeping files (stop.Refused refusal) =
    (statements : List PlainStatement) → ¬ (AreMeant files statements)
StopsKeeping files stop.Memory = Unit {0}

-- so it is, or the files can't be taken as a whole
abbrev pub IsUnkept : List PlainFile → CheckFault → Type 0
IsUnkept files (check.Load rule) =
    (statements : List PlainStatement) → ¬ (AreMeant files statements)
IsUnkept files (check.Refused refusal) =
    (statements : List PlainStatement) → ¬ (AreMeant files statements)
IsUnkept files check.Memory = Unit {0}
