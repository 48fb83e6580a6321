-- What checking has come to, and what is answered of one statement and of the text's end. This file
-- mirrors the code, and is cited by private contracts alone.
use Rattle.std.specs.Prelude.{◌≡◌, ℕ, ◌+◌, List, [], ◌∷◌, ◌++◌, map, length}
use Rattle.std.specs.Prelude.{not, Bool, true, false, if◌then◌else◌}
use Rattle.std.specs.Prelude.{Result}
use Rattle.std.specs.Prelude.{MatchResult}
use Rattle.mm_base.specs.declared.statement.Kind.TheVariants.{Provable}
use Rattle.mm_base.specs.Statement.{PlainStatement, bytes_in}
use Rattle.mm_text.specs.Files.{PlainFile}
use Rattle.mm_frame.specs.Sentence.{Sentence, sentence_of}
use Rattle.mm_frame.specs.declared.rule.MeaningRule.{MeaningRule}
use Rattle.mm_frame.specs.Rules.{FirstBroken, IsMeant}
use Rattle.mm_frame.specs.Numbers.{labelled_sentences}
use Rattle.mm_step.specs.declared.fault.ProofRule.{ProofRule}
use Rattle.mm_step.specs.declared.fault.ProofFault.{ProofFault}
use Rattle.mm_proof.specs.declared.prover.Proved.{Proved}
use Rattle.mm_proof.specs.declared.prover.Proved.TheVariants as proved
use Rattle.mm_proof.specs.Answer.{OnRule}
use Rattle.mm_proof.specs.Used.{AreUsedNumbers}
use Rattle.mm_proof.specs.Proof.{IsProvedWithin}
use Rattle.mm_step.specs.Proof.{IsWithin}
use Rattle.mm_step.specs.declared.profile.Profile.{Profile}
use Rattle.mm_step.specs.Profiles.{limit_of}
use Rattle.mm_proof.specs.Strict.{HasFormOf}
use Rattle.mm_proof.specs.UnderProfile.{IsPrefixAllowedUnder}
use Rattle.mm_proof.specs.Tokens.{is_incomplete}
use Rattle.mm_rules.specs.declared.fault.CheckFault.{CheckFault}
use Rattle.mm_rules.specs.declared.fault.CheckFault.TheVariants as check
use Rattle.mm_rules.specs.declared.fault.Refusal.{Refusal}
use Rattle.mm_rules.specs.declared.fault.Stop.{Stop}
use Rattle.mm_rules.specs.declared.fault.Stop.TheVariants as stop
use Rattle.mm_rules.specs.declared.judge.Judged.{Judged}
use Rattle.mm_rules.specs.declared.judge.Judged.TheVariants as came
use Rattle.mm_rules.specs.declared.progress.Progress.{Progress}
use Rattle.mm_rules.specs.declared.rule.Rule.TheVariants as rules
use Rattle.mm_rules.specs.Verdict.{Obeys}
use Rattle.mm_rules.specs.Verdict.{refusal_of}
use Rattle.mm_rules.specs.Verdict.{proof_of}
use Rattle.mm_rules.specs.Verdict.{is_proof, is_unproved, IsProofFault}
use Rattle.mm_rules.specs.Answer.{plain_refusal}
use Rattle.mm_rules.specs.Conclusion.{ProofUses}
use Rattle.mm_rules.specs.Mirror.Ordered.{ordered}
use Rattle.mm_rules.specs.Rests.{tree_of}

-- what ends the way through the statements, as why the database isn't accepted
abbrev pub fault_of : Stop → CheckFault
fault_of (stop.Refused refusal) = check.Refused refusal
fault_of stop.Memory = check.Memory

-- The statement, which comes after so many others, is refused for the first rule of meaning that it
-- breaks; or memory ran out.
abbrev pub RefusesMeaning : List PlainFile → List Sentence → ℕ → PlainStatement → Stop → Type 0
RefusesMeaning files before count s (stop.Refused refusal) =
    (broken : MeaningRule) × FirstBroken broken before (sentence_of s)
    × (plain_refusal refusal ≡ refusal_of files count s (rules.Meaning broken) 0)
RefusesMeaning files before count s stop.Memory = Unit {0}

-- the last of the statements is this `$p`, which has the number
pub record IsLastProof (statements : List Sentence) (id : ℕ) (s : PlainStatement) : Type 0 where
  pub before : List Sentence
  pub whole : statements ≡ before ++ sentence_of s ∷ []
  pub number : id ≡ length (labelled_sentences before)
  pub provable : s.kind ≡ Provable

-- the proof of a `$p` after the statements before is proved and has the form that the profile
-- demands, and these are the numbers of the assertions in its tree, in any order, each once or more
pub record IsProvedUsing (profile : Profile) (before : List Sentence) (s : PlainStatement)
    (used : List ℕ) : Type 0 where
  pub form : HasFormOf profile before (sentence_of s) (proof_of s)
  pub proof : IsProvedWithin (IsWithin (limit_of profile)) before (sentence_of s) (proof_of s)
  pub all : AreUsedNumbers before (tree_of proof) used

-- the proof is incomplete, and what is known of it breaks no rule; or it is complete, and proved by
-- a tree whose assertions have exactly these numbers, in any order, each once or more
abbrev pub IsJudged : Profile → List Sentence → PlainStatement → List ℕ → Proved → Type 0
IsJudged profile before s used proved.Incomplete =
    (is_incomplete (proof_of s) ≡ true)
    × IsPrefixAllowedUnder profile before (sentence_of s) (proof_of s)
IsJudged profile before s used proved.Complete =
    (is_incomplete (proof_of s) ≡ false) × IsProvedUsing profile before s used

-- this is the fault of its proof, or of what is known of it; or memory ran out
abbrev pub Fails : Profile → List Sentence → PlainStatement → ProofFault → Type 0
Fails profile before s fault = OnRule fault (IsProofFault profile before s)

-- the verdict on the proof of the last statement, which uses these assertions if it is complete
abbrev pub JudgesProof : Profile → List Sentence → PlainStatement → Result Proved ProofFault
    → List ℕ → Type 0
JudgesProof profile statements s result used =
    (before : List Sentence) → statements ≡ before ++ sentence_of s ∷ []
    → MatchResult result (IsJudged profile before s used) (Fails profile before s)

-- if the proof of the statement, which has this number, is complete, it is kept with the numbers of
-- the assertions that it uses, each once, in database order; else nothing is added
pub record KeepsProof (profile : Profile) (before : List Sentence) (s : PlainStatement) (id : ℕ)
    (complete : Bool) (old new : List ProofUses) : Type 0 where
  pub some : complete ≡ true
      → (used : List ℕ) × IsProvedUsing profile before s used
      × (new ≡ old ++ record { number = id; used = ordered used } ∷ [])
  pub none : complete ≡ false → new ≡ old

-- The proof of the last statement was counted, and what it uses kept; or what is known of it breaks
-- no rule, and it was noted as incomplete. So it obeys the rules, if it breaks none of meaning.
pub record CountsProof (profile : Profile) (old : Progress) (id : ℕ) (s : PlainStatement)
    (new : Progress) : Type 0 where
  pub obeys : (before : List Sentence) → old.prover.book.statements ≡ before ++ sentence_of s ∷ []
      → IsMeant before (sentence_of s) → Obeys profile before s
  pub book : new.prover.book ≡ old.prover.book
  pub count : new.count ≡ old.count
  pub proofs : new.proofs ≡ old.proofs + (if is_incomplete (proof_of s) then 0 else 1)
  pub incomplete : map (λ id. id.0) new.incomplete.items
      ≡ map (λ id. id.0) old.incomplete.items
      ++ (if is_incomplete (proof_of s) then id ∷ [] else [])
  pub kept : (before : List Sentence) → old.prover.book.statements ≡ before ++ sentence_of s ∷ []
      → KeepsProof profile before s id (not (is_incomplete (proof_of s))) old.kept new.kept
  pub lines : new.lines ≡ old.lines

-- This is the refusal of the last statement for the fault of its proof, or of what is known of it,
-- and nothing was counted.
pub record FailsProof (profile : Profile) (files : List PlainFile) (old : Progress)
    (s : PlainStatement) (refusal : Refusal) (new : Progress) : Type 0 where
  pub rule : ProofRule
  pub step : ℕ
  pub fault : (before : List Sentence) → old.prover.book.statements ≡ before ++ sentence_of s ∷ []
      → IsProofFault profile before s rule step
  pub told : plain_refusal refusal ≡ refusal_of files old.count s (rules.Proof rule) step
  pub book : new.prover.book ≡ old.prover.book
  pub count : new.count ≡ old.count
  pub proofs : new.proofs ≡ old.proofs
  pub lines : new.lines ≡ old.lines

-- The proof of the last statement, which has the number, was counted, as a complete one or as an
-- incomplete one; or this is the refusal for its fault.
abbrev pub TriesProof : Profile → List PlainFile → (old : Progress) → ℕ → PlainStatement → Judged
    → (new : Progress) → Type 0
TriesProof profile files old id s (came.Theorem own) new =
    (own.0 ≡ id) × (is_incomplete (proof_of s) ≡ false) × CountsProof profile old id s new
TriesProof profile files old id s came.Other new =
    (is_incomplete (proof_of s) ≡ true) × CountsProof profile old id s new
TriesProof profile files old id s (came.Faulty refusal) new =
    FailsProof profile files old s refusal new

-- The statement obeys the rules, and is taken into the progress.
pub record Takes (profile : Profile) (old : Progress) (s : PlainStatement)
    (new : Progress) : Type 0 where
  pub obeys : Obeys profile old.prover.book.statements s
  pub statements : new.prover.book.statements ≡ old.prover.book.statements ++ sentence_of s ∷ []
  pub bytes : new.prover.book.bytes ≡ old.prover.book.bytes + bytes_in s
  pub count : new.count ≡ old.count + 1
  pub proofs : new.proofs ≡ old.proofs + (if is_proof s then 1 else 0)
  pub incomplete : map (λ id. id.0) new.incomplete.items
      ≡ map (λ id. id.0) old.incomplete.items
      ++ (if is_unproved s then length (labelled_sentences old.prover.book.statements) ∷ [] else [])
  pub kept : KeepsProof profile old.prover.book.statements s
      (length (labelled_sentences old.prover.book.statements)) (is_proof s) old.kept new.kept
  pub lines : new.lines ≡ old.lines

-- The statement breaks no rule of meaning, and this is the refusal for the fault of its proof. It is
-- taken into the progress all the same; its proof isn't.
pub record TakesFaulty (profile : Profile) (files : List PlainFile) (old : Progress)
    (s : PlainStatement) (refusal : Refusal) (new : Progress) : Type 0 where
  pub meant : IsMeant old.prover.book.statements (sentence_of s)
  pub rule : ProofRule
  pub step : ℕ
  pub fault : IsProofFault profile old.prover.book.statements s rule step
  pub told : plain_refusal refusal ≡ refusal_of files old.count s (rules.Proof rule) step
  pub statements : new.prover.book.statements ≡ old.prover.book.statements ++ sentence_of s ∷ []
  pub bytes : new.prover.book.bytes ≡ old.prover.book.bytes + bytes_in s
  pub count : new.count ≡ old.count + 1
  pub proofs : new.proofs ≡ old.proofs
  pub lines : new.lines ≡ old.lines

-- The statement is taken, and came to this: a theorem with this number, or another statement, which
-- obeys the rules; or this is the refusal for the fault of its proof.
abbrev pub IsTaken : Profile → List PlainFile → (old : Progress) → PlainStatement → Judged
    → (new : Progress) → Type 0
IsTaken profile files old s (came.Theorem id) new =
    (is_proof s ≡ true) × IsLastProof new.prover.book.statements id.0 s × Takes profile old s new
IsTaken profile files old s came.Other new = (is_proof s ≡ false) × Takes profile old s new
IsTaken profile files old s (came.Faulty refusal) new =
    TakesFaulty profile files old s refusal new
