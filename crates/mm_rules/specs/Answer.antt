-- What `check` answers, as a verdict.
use Rattle.std.specs.Prelude.{◌≡◌, ℕ, ◌<◌, true, List, [], ◌∷◌, slice_get, length, Option, Some}
use Rattle.std.specs.Prelude.{None, option_map, Result, Ok, Err, ◌⊎◌}
use Rattle.std.specs.List.{flat_map}
use Rattle.std.specs.Option.{option_to_list}
use Rattle.mm_rules.specs.declared.fault.Refusal.{Refusal}
use Rattle.mm_rules.specs.declared.fault.CheckFault.{CheckFault}
use Rattle.mm_rules.specs.declared.fault.CheckFault.TheVariants as fault
use Rattle.mm_rules.specs.Conclusion.{Conclusion}
use Rattle.mm_base.specs.Statement.{PlainStatement}
use Rattle.mm_text.specs.Files.{PlainFile}
use Rattle.mm_text.specs.Reading.{PlainFault, Reads}
use Rattle.mm_step.specs.declared.fault.ProofRule.TheVariants.{L1}
use Rattle.mm_step.specs.declared.profile.Profile.{Profile}
use Rattle.mm_rules.specs.declared.rule.Rule.TheVariants as rules
use Rattle.mm_rules.specs.Verdict.{PlainRefusal, Verdict, Load, Refused, Incomplete, Yes}
use Rattle.mm_rules.specs.Verdict.{HasVerdict, labels_of, proofs_of, is_unproved, sentences}
use Rattle.mm_rules.specs.Rests.{IsNumberWhere, AreInOrder, AreUses}

-- a refusal without where its label lies in memory
abbrev pub plain_refusal : Refusal → PlainRefusal
plain_refusal r = record {
  file = r.file;
  at = r.at;
  line = r.line;
  statement = r.statement;
  label = option_map (λ l. l.now) r.label;
  rule = r.rule;
  step = r.step;
}

-- the labels with these numbers; a number that none has is passed over
abbrev pub labels_at : List (List ℕ) → List ℕ → List (List ℕ)
labels_at labels numbers = flat_map (λ number. option_to_list (slice_get labels number)) numbers

-- the verdict where these proofs are incomplete: yes, if there are none
abbrev pub verdict_where_incomplete : Conclusion → List ℕ → Verdict
verdict_where_incomplete c [] = Yes c.statements c.proofs
verdict_where_incomplete c (number ∷ numbers) = Incomplete (labels_at c.labels (number ∷ numbers))

-- a database in which nothing is at fault: yes, unless proofs are incomplete
abbrev pub verdict_of_conclusion : Conclusion → Verdict
verdict_of_conclusion c = verdict_where_incomplete c c.incomplete

-- the verdict of a fault; none for lack of memory
abbrev pub verdict_of_fault : CheckFault → Option Verdict
verdict_of_fault (fault.Load rule) = Some (Load rule)
verdict_of_fault (fault.Refused r) = Some (Refused (plain_refusal r))
verdict_of_fault fault.Memory = None

-- the verdict that an answer tells; none for lack of memory
abbrev pub verdict_of_answer : Result Conclusion CheckFault → Option Verdict
verdict_of_answer (Ok c) = Some (verdict_of_conclusion c)
verdict_of_answer (Err e) = verdict_of_fault e

-- the answer is yes
abbrev pub IsYes : Result Conclusion CheckFault → Type 0
IsYes answer = (statements proofs : ℕ) × (verdict_of_answer answer ≡ Some (Yes statements proofs))

-- the answer is that a step of a proof passes the limit on expressions
abbrev pub IsOverLimit : Result Conclusion CheckFault → Type 0
IsOverLimit answer =
    (refusal : PlainRefusal) × (verdict_of_answer answer ≡ Some (Refused refusal))
    × (refusal.rule ≡ rules.Proof L1)

-- memory ran out
abbrev pub IsWantOfMemory : Result Conclusion CheckFault → Type 0
IsWantOfMemory answer = verdict_of_answer answer ≡ None

-- The answer is the verdict over the files, unless memory ran out.
abbrev pub IsVerdict : Profile → List PlainFile → Result Conclusion CheckFault → Type 0
IsVerdict profile files answer =
    (verdict : Verdict) → verdict_of_answer answer ≡ Some verdict → HasVerdict profile files verdict

-- A verdict that holds of the files is the one answered, unless memory ran out.
abbrev pub IsOnlyVerdict : Profile → List PlainFile → Result Conclusion CheckFault → Type 0
IsOnlyVerdict profile files answer =
    (verdict : Verdict) → HasVerdict profile files verdict
    → IsWantOfMemory answer ⊎ (verdict_of_answer answer ≡ Some verdict)

-- the labels kept are those of the statements that the files hold
abbrev pub KeepsLabels : List PlainFile → Conclusion → Type 0
KeepsLabels files c =
    (statements : List PlainStatement) (ending : Option PlainFault) → Reads files statements ending
    → c.labels ≡ labels_of statements

-- the counts kept are those of the statements that the files hold, and of their `$p` with a
-- complete proof
abbrev pub KeepsCounts : List PlainFile → Conclusion → Type 0
KeepsCounts files c =
    (statements : List PlainStatement) (ending : Option PlainFault) → Reads files statements ending
    → (c.statements ≡ length statements) × (c.proofs ≡ proofs_of statements)

-- what is kept of these statements: what they say, the numbers of the incomplete proofs, and what
-- the complete ones use
pub record IsKeptOf (statements : List PlainStatement) (c : Conclusion) : Type 0 where
  pub sentences : c.sentences ≡ sentences statements
  pub incomplete : AreInOrder (IsNumberWhere statements (λ s. is_unproved s ≡ true)) c.incomplete
  pub uses : AreUses statements c.uses

-- it is kept of the statements that the files hold
abbrev pub KeepsUses : List PlainFile → Conclusion → Type 0
KeepsUses files c =
    (statements : List PlainStatement) (ending : Option PlainFault) → Reads files statements ending
    → IsKeptOf statements c

-- the files kept are those that were handed in
abbrev pub KeepsFiles : List PlainFile → Conclusion → Type 0
KeepsFiles files c = c.files ≡ files

-- the file in which a statement or a token is refused is one of the files
abbrev pub NamesFile : List PlainFile → Result Conclusion CheckFault → Type 0
NamesFile files answer =
    (refusal : PlainRefusal) → verdict_of_answer answer ≡ Some (Refused refusal)
    → refusal.file < length files
