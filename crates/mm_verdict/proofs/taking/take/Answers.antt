-- The refusal tells the rule of meaning.
use Rattle.std.proofs.Common.{Err, refl, ap, ◌∙◌}
use Rattle.mm_base.specs.Statement.{PlainStatement, plain_statement}
use Rattle.mm_rules.specs.declared.rule.Rule.TheVariants as rules
use Rattle.mm_rules.proofs.Judgements.JudgedProofs.{same_refusal}
use Rattle.mm_verdict.proofs.taking.take.Goals as goal

pub returns-in-Err-Rule-clause-refused : goal.returns-in-Err-Rule-clause-refused
returns-in-Err-Rule-clause-refused c =
    let s : PlainStatement = plain_statement c.args.statement.now in
    let same =
    same_refusal c.args.progress.now.lines c.args.progress.now.count s
    (ap rules.Meaning c.in-Err-Rule.rule-is) refl in (
      c.in-Err-Rule.rule,
      c.take.ensures.rule c.in-Err-Rule.rule (c.in-Err-Rule.is ∙ ap Err c.in-Err-Rule.field-0-is),
      c.refusal-refusal.ensures.told ∙ same,
    )
