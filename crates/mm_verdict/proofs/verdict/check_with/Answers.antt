-- What the verdict says, by the laws of verdicts.
use Rattle.mm_verdict.proofs.Verdicts.OneVerdict.{only_told, yes_obeys, accepted_told}
use Rattle.mm_rules.specs.Verdict.{Yes}
use Rattle.mm_rules.proofs.Judgements.JudgedProofs.{names_file}
use Rattle.mm_verdict.proofs.verdict.check_with.Goals as goal

pub returns-clause-only : goal.returns-clause-only
returns-clause-only c = only_told c.args.profile _ _ c.judge_all.ensures.verdict

pub returns-clause-yes : goal.returns-clause-yes
returns-clause-yes c = λ told.
    yes_obeys c.args.profile _ told.0 told.1 (c.judge_all.ensures.verdict (Yes _ _) told.2)

pub returns-clause-accepted : goal.returns-clause-accepted
returns-clause-accepted c = accepted_told c.args.profile _ _ c.judge_all.ensures.verdict

pub returns-clause-file : goal.returns-clause-file
returns-clause-file c = names_file c.args.profile _ c.judge_all.result c.judge_all.ensures.verdict
