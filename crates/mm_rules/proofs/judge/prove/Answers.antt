-- The refusal tells the fault of the proof.
use Rattle.std.proofs.Common.{◌≡◌, ◌++◌, ◌∷◌, [], List, refl, subst, ap, ◌∙◌}
use Rattle.mm_base.specs.Statement.{PlainStatement, plain_statement}
use Rattle.mm_frame.specs.Sentence.{Sentence, sentence_of}
use Rattle.mm_step.specs.declared.fault.ProofFault.TheVariants.{Rule}
use Rattle.mm_rules.specs.declared.rule.Rule.TheVariants as rules
use Rattle.mm_rules.proofs.Judgements.JudgedProofs.{same_refusal}
use Rattle.mm_rules.specs.Mirror.Judged.{Fails}
use Rattle.mm_rules.proofs.judge.prove.Goals as goal

pub returns-in-Err-Rule : goal.returns-in-Err-Rule
returns-in-Err-Rule c =
    let s : PlainStatement = plain_statement c.args.statement.now in
    let fails : (before : List Sentence) → c.args.progress.now.prover.book.statements ≡ before ++ sentence_of s ∷ [] → Fails c.args.profile before s (Rule c.in-Err-Rule.rule c.in-Err-Rule.step) =
    λ before e. subst (Fails c.args.profile before s) c.in-Err-Rule.field-0-is (c.in-Err-Rule.ensures.judged before e) in
    record {
      rule = c.in-Err-Rule.rule;
      step = c.in-Err-Rule.step;
      fault = fails;
      told = c.refusal-refusal.ensures.told
          ∙ same_refusal c.args.progress.now.lines c.args.progress.now.count s (ap rules.Proof c.in-Err-Rule.rule-is) c.in-Err-Rule.step-is;
      book = c.in-Err-Rule.ensures.book;
      count = refl;
      proofs = refl;
      lines = c.refusal-refusal.ensures.files;
    }
