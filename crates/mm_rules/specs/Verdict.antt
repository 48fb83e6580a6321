-- The verdict over the handed files: why they can't be taken, the first statement at fault,
-- incomplete proofs, or yes.
use Rattle.std.specs.Prelude.{◌≡◌, ◌≢◌, ℕ, ◌+◌, ◌&&◌, List, [], ◌∷◌, ◌++◌, map, length}
use Rattle.std.specs.Prelude.{count_by, filter, not, Bool, true, false, Option, Some}
use Rattle.std.specs.Prelude.{None, option_map, ◌⊎◌}
use Rattle.std.specs.List.{flat_map}
use Rattle.std.specs.Option.{option_to_list}
use Rattle.mm_text.specs.declared.fault.LoadRule.{LoadRule}
use Rattle.mm_base.specs.declared.statement.Kind.TheVariants.{Provable}
use Rattle.mm_base.specs.Statement.{PlainStatement, is_provable}
use Rattle.mm_text.specs.Files.{PlainFile, BreaksLoad}
use Rattle.mm_text.specs.LineNumbers.{line_of}
use Rattle.mm_text.specs.Reading.{PlainFault, Reads}
use Rattle.mm_frame.specs.declared.rule.MeaningRule.{MeaningRule}
use Rattle.mm_frame.specs.Sentence.{Sentence, sentence_of}
use Rattle.mm_frame.specs.Rules.{FirstBroken, IsMeant}
use Rattle.mm_step.specs.declared.fault.ProofRule.{ProofRule}
use Rattle.mm_step.specs.declared.profile.Profile.{Profile}
use Rattle.mm_proof.specs.Tokens.{is_incomplete}
use Rattle.mm_proof.specs.Proof.{IsProved}
use Rattle.mm_proof.specs.Strict.{HasFormOf}
use Rattle.mm_proof.specs.UnderProfile.{IsProvedUnder, IsFaultUnder, IsPrefixAllowedUnder}
use Rattle.mm_proof.specs.UnderProfile.{IsPrefixFaultUnder}
use Rattle.mm_rules.specs.declared.rule.Rule.{Rule}
use Rattle.mm_rules.specs.declared.rule.Rule.TheVariants as rules

-- where and why a database is refused
pub record PlainRefusal : Type 0 where
  pub file : ℕ
  pub at : ℕ
  pub line : ℕ
  pub statement : ℕ
  pub label : Option (List ℕ)
  pub rule : Rule
  pub step : ℕ

-- what is said of the files
pub data Verdict : Type 0 where
  Load : (rule : Rule) → Verdict
  Refused : (refusal : PlainRefusal) → Verdict
  Incomplete : (labels : List (List ℕ)) → Verdict
  Yes : (statements proofs : ℕ) → Verdict

-- the refusal at the first token of a statement, which comes after so many others
abbrev pub refusal_of : List PlainFile → ℕ → PlainStatement → Rule → ℕ → PlainRefusal
refusal_of files count s rule step = record {
  file = s.first.file;
  at = s.first.at;
  line = line_of files s.first.file s.first.at;
  statement = count + 1;
  label = option_map (λ t. t.text) s.label;
  rule = rule;
  step = step;
}

-- the refusal at a fault of the text
abbrev pub text_refusal : List PlainFile → PlainFault → PlainRefusal
text_refusal files fault = record {
  file = fault.file;
  at = fault.at;
  line = line_of files fault.file fault.at;
  statement = fault.statement;
  label = option_map (λ t. t.text) fault.label;
  rule = rules.Text fault.rule;
  step = 0;
}

-- the tokens of a statement's proof
abbrev pub proof_of : PlainStatement → List (List ℕ)
proof_of s = map (λ t. t.text) s.proof

-- a `$p` whose proof is incomplete, and one whose proof is complete
abbrev pub is_unproved : PlainStatement → Bool
is_unproved s = is_provable s.kind && is_incomplete (proof_of s)

abbrev pub is_proof : PlainStatement → Bool
is_proof s = is_provable s.kind && not (is_incomplete (proof_of s))

abbrev pub sentences : List PlainStatement → List Sentence
sentences statements = map sentence_of statements

-- The statement obeys the rules of the profile after those before it: it breaks no rule of meaning;
-- as a `$p` with a complete proof it is proved, and what is known of an incomplete proof breaks no
-- rule.
pub record Obeys (profile : Profile) (before : List Sentence) (s : PlainStatement) : Type 0 where
  pub meant : IsMeant before (sentence_of s)
  pub proved : is_proof s ≡ true → IsProvedUnder profile before (sentence_of s) (proof_of s)
  pub known : is_unproved s ≡ true
      → IsPrefixAllowedUnder profile before (sentence_of s) (proof_of s)

-- each of the statements does
abbrev pub AllObey : Profile → List PlainStatement → Type 0
AllObey profile statements =
    (before after : List PlainStatement) (s : PlainStatement) → statements ≡ before ++ s ∷ after
    → Obeys profile (sentences before) s

-- the first fault of the proof of a `$p`: of all of it, if it is complete, else of what is known of it
abbrev pub IsProofFault : Profile → List Sentence → PlainStatement → ProofRule → ℕ → Type 0
IsProofFault profile before s rule step =
    ((is_proof s ≡ true) × IsFaultUnder profile before (sentence_of s) (proof_of s) rule step)
    ⊎ ((is_unproved s ≡ true)
    × IsPrefixFaultUnder profile before (sentence_of s) (proof_of s) rule step)

-- The fault of a statement: the first rule of meaning that it breaks, else the first fault of its
-- proof.
abbrev pub HasFault : Profile → List Sentence → PlainStatement → Rule → ℕ → Type 0
HasFault profile before s rule step =
    ((broken : MeaningRule) × FirstBroken broken before (sentence_of s)
    × (rule ≡ rules.Meaning broken) × (step ≡ 0))
    ⊎ (IsMeant before (sentence_of s)
    × (broken : ProofRule) × IsProofFault profile before s broken step
    × (rule ≡ rules.Proof broken))

-- The first statement at fault, after statements that obey the rules.
pub record RefusesStatement (profile : Profile) (files : List PlainFile)
    (statements : List PlainStatement) (refusal : PlainRefusal) : Type 0 where
  pub before : List PlainStatement
  pub s : PlainStatement
  pub after : List PlainStatement
  pub split : statements ≡ before ++ s ∷ after
  pub obeyed : AllObey profile before
  pub rule : Rule
  pub step : ℕ
  pub fault : HasFault profile (sentences before) s rule step
  pub refused : refusal ≡ refusal_of files (length before) s rule step

-- The fault of the text, after statements that obey the rules.
pub record RefusesText (profile : Profile) (files : List PlainFile)
    (statements : List PlainStatement) (ending : Option PlainFault) (refusal : PlainRefusal) : Type 0 where
  pub obeyed : AllObey profile statements
  pub fault : PlainFault
  pub ended : ending ≡ Some fault
  pub refused : refusal ≡ text_refusal files fault

-- the files break none of the rules that are judged over them as a whole
abbrev pub CanBeRead : List PlainFile → Type 0
CanBeRead files = (rule : LoadRule) → ¬ (BreaksLoad files rule)

-- a statement's label, if it has one
abbrev pub label_of : PlainStatement → List (List ℕ)
label_of s = option_to_list (option_map (λ t. t.text) s.label)

-- the labels of the labelled statements, in their order
abbrev pub labels_of : List PlainStatement → List (List ℕ)
labels_of statements = flat_map label_of statements

-- the labels of the incomplete proofs, in their order
abbrev pub unproved_of : List PlainStatement → List (List ℕ)
unproved_of statements = flat_map label_of (filter is_unproved statements)

-- how many of the statements are `$p` with a complete proof
abbrev pub proofs_of : List PlainStatement → ℕ
proofs_of statements = count_by is_proof statements

-- Each statement of the files obeys the rules, and the text has no fault.
pub record AreAccepted (profile : Profile) (files : List PlainFile)
    (statements : List PlainStatement) : Type 0 where
  pub readable : CanBeRead files
  pub reads : Reads files statements None
  pub obeyed : AllObey profile statements

-- The verdict over the files in the profile.
abbrev pub HasVerdict : Profile → List PlainFile → Verdict → Type 0
HasVerdict profile files (Load rule) =
    (broken : LoadRule) × BreaksLoad files broken × (rule ≡ rules.Load broken)
HasVerdict profile files (Refused refusal) =
    CanBeRead files
    × (statements : List PlainStatement) × (ending : Option PlainFault)
    × Reads files statements ending
    × (RefusesStatement profile files statements refusal
    ⊎ RefusesText profile files statements ending refusal)
HasVerdict profile files (Incomplete labels) =
    (statements : List PlainStatement) × AreAccepted profile files statements
    × (labels ≡ unproved_of statements) × (labels ≢ [])
HasVerdict profile files (Yes count proofs) =
    (statements : List PlainStatement) × AreAccepted profile files statements
    × (unproved_of statements ≡ [])
    × (count ≡ length statements) × (proofs ≡ proofs_of statements)

-- The files obey every rule of the profile, and each proof spells a derivation tree of its
-- assertion from active hypotheses and earlier assertions, respecting all distinct variables, and has
-- the form that the profile demands.
pub record ObeyTheProfile (profile : Profile) (files : List PlainFile) : Type 0 where
  pub handed : CanBeRead files
  pub statements : List PlainStatement
  pub reading : Reads files statements None
  pub meant : (before after : List PlainStatement) (s : PlainStatement)
      → statements ≡ before ++ s ∷ after
      → IsMeant (sentences before) (sentence_of s)
  pub proved : (before after : List PlainStatement) (s : PlainStatement)
      → statements ≡ before ++ s ∷ after → s.kind ≡ Provable
      → (is_incomplete (proof_of s) ≡ false)
      × IsProved (sentences before) (sentence_of s) (proof_of s)
      × HasFormOf profile (sentences before) (sentence_of s) (proof_of s)
