-- All faults of the handed files, in one run, which is this project's own. Each statement is judged
-- after what the statements before it say, whatever their proofs: a proof uses hypotheses and earlier
-- assertions, and not how these are proved.
use Rattle.std.specs.Prelude.{◌≡◌, ℕ, List, length}
use Rattle.mm_base.specs.Statement.{PlainStatement}
use Rattle.mm_text.specs.Files.{PlainFile}
use Rattle.mm_frame.specs.Sentence.{sentence_of}
use Rattle.mm_frame.specs.Rules.{IsMeant}
use Rattle.mm_step.specs.declared.fault.ProofRule.{ProofRule}
use Rattle.mm_step.specs.declared.profile.Profile.{Profile}
use Rattle.mm_rules.specs.Verdict.{PlainRefusal}
use Rattle.mm_rules.specs.Verdict.{IsProofFault, sentences, refusal_of}
use Rattle.mm_rules.specs.declared.rule.Rule.TheVariants as rules

-- It breaks no rule of meaning, and is refused for the first fault of its proof, or of what is known
-- of it.
pub record IsProofRefusal (profile : Profile) (files : List PlainFile)
    (before : List PlainStatement) (s : PlainStatement) (refusal : PlainRefusal) : Type 0 where
  pub meant : IsMeant (sentences before) (sentence_of s)
  pub rule : ProofRule
  pub step : ℕ
  pub fault : IsProofFault profile (sentences before) s rule step
  pub refused : refusal ≡ refusal_of files (length before) s (rules.Proof rule) step
