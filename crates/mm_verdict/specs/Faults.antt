-- All faults of the handed files, in one run, which is this project's own. Each statement is judged
-- after what the statements before it say, whatever their proofs: a proof uses hypotheses and earlier
-- assertions, and not how these are proved.
use Rattle.std.specs.Prelude.{◌≡◌, ◌≢◌, List, [], ◌∷◌, ◌++◌, map, length, Option, Some, None, ◌⊎◌}
use Rattle.mm_base.specs.Statement.{PlainStatement}
use Rattle.mm_text.specs.Files.{PlainFile}
use Rattle.mm_text.specs.Reading.{PlainFault, Reads}
use Rattle.mm_frame.specs.declared.rule.MeaningRule.{MeaningRule}
use Rattle.mm_frame.specs.Sentence.{sentence_of}
use Rattle.mm_frame.specs.Rules.{FirstBroken}
use Rattle.mm_step.specs.declared.profile.Profile.{Profile}
use Rattle.mm_verdict.specs.declared.faults.AllFaults.{AllFaults}
use Rattle.mm_verdict.specs.declared.faults.AllFaults.TheVariants as all
use Rattle.mm_rules.specs.Verdict.{PlainRefusal, Verdict, Load, Refused, Incomplete, Yes, HasVerdict}
use Rattle.mm_rules.specs.Verdict.{CanBeRead, Obeys, sentences, refusal_of}
use Rattle.mm_rules.specs.declared.rule.Rule.TheVariants as rules
use Rattle.mm_rules.specs.Verdict.{text_refusal}
use Rattle.mm_rules.specs.Answer.{plain_refusal}
use Rattle.mm_rules.specs.Faults.{IsProofRefusal}

-- The statement is refused, after those before it, for the first rule of meaning that it breaks.
pub record IsMeaningRefusal (files : List PlainFile) (before : List PlainStatement)
    (s : PlainStatement) (refusal : PlainRefusal) : Type 0 where
  pub rule : MeaningRule
  pub broken : FirstBroken rule (sentences before) (sentence_of s)
  pub refused : refusal ≡ refusal_of files (length before) s (rules.Meaning rule) 0

-- The refusals of the statements that are left, after those before: none of a statement that obeys the
-- rules; one of a statement whose proof has a fault, and then those of what is left after it. What
-- breaks a rule of meaning is refused last, and so is the fault of the text, which stands after all
-- statements.
abbrev pub AreRefused : Profile → List PlainFile → (before left : List PlainStatement)
    → (ending : Option PlainFault) → List PlainRefusal → Type 0
AreRefused profile files before [] None refusals = refusals ≡ []
AreRefused profile files before [] (Some fault) refusals =
    refusals ≡ text_refusal files fault ∷ []
AreRefused profile files before (s ∷ left) ending refusals =
    (Obeys profile (sentences before) s
    × AreRefused profile files (before ++ s ∷ []) left ending refusals)
    ⊎ (((first : PlainRefusal) × IsProofRefusal profile files before s first
    × (others : List PlainRefusal) × AreRefused profile files (before ++ s ∷ []) left ending others
    × (refusals ≡ first ∷ others))
    ⊎ ((last : PlainRefusal) × IsMeaningRefusal files before s last × (refusals ≡ last ∷ [])))

-- These are the refusals of all faults that are found in the files in one run, in the order of the
-- database.
pub record HaveFaults (profile : Profile) (files : List PlainFile)
    (refusals : List PlainRefusal) : Type 0 where
  pub readable : CanBeRead files
  pub statements : List PlainStatement
  pub ending : Option PlainFault
  pub reads : Reads files statements ending
  pub refused : AreRefused profile files [] statements ending refusals

-- what is answered where the files aren't accepted: why they can't be taken; or all faults, of which
-- there is one; or that memory ran out
abbrev pub AreAllFaults : Profile → List PlainFile → AllFaults → Type 0
AreAllFaults profile files (all.Load rule) = HasVerdict profile files (Load rule)
AreAllFaults profile files (all.Refused refusals) =
    HaveFaults profile files (map plain_refusal refusals.items) × (refusals.items ≢ [])
AreAllFaults profile files all.Memory = Unit {0}

-- the refusal that a verdict tells, if it tells one
abbrev pub refusal_in : Verdict → Option PlainRefusal
refusal_in (Load rule) = None
refusal_in (Refused refusal) = Some refusal
refusal_in (Incomplete labels) = None
refusal_in (Yes statements proofs) = None
