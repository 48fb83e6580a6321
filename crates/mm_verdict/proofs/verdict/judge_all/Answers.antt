-- What is kept in the end, or the fault, tells the verdict.
use Rattle.std.proofs.Common.{map, refl, subst}
use Rattle.std.proofs.lemmas.Option.{same_Some}
use Rattle.mm_text.specs.Files.{plain_file}
use Rattle.mm_rules.specs.Verdict.{HasVerdict}
use Rattle.mm_rules.specs.Answer.{verdict_of_conclusion}
use Rattle.mm_verdict.proofs.Verdicts.AcceptedStatements.{passed_on}
use Rattle.mm_verdict.proofs.Verdicts.LoopOverStatements.{all_accepted, verdict_told}
use Rattle.mm_verdict.proofs.verdict.judge_all.Goals as goal

pub judge_files-requires : goal.judge_files-requires
judge_files-requires c κs = ((refl, tt), λ readable. refl)

pub conclude-requires : goal.conclude-requires
conclude-requires c =
    (all_accepted _ Unit c.args.profile (map plain_file c.args.files.now) _ _
    (λ taken listed none. none)
    c.in_ok-progress.progress c.in_ok-progress.ensures.visited).0

pub returns-in_err-progress-clause-verdict : goal.returns-in_err-progress-clause-verdict
returns-in_err-progress-clause-verdict c =
    passed_on c.args.profile (map plain_file c.args.files.now) c.from_residual.result
    c.in_err-progress.field-0.0 c.from_residual.ensures.1
    (verdict_told _ _ c.args.profile (map plain_file c.args.files.now) _ _
    (λ taken listed none. none) c.in_err-progress.field-0.0 c.in_err-progress.ensures.stopped)

pub returns-clause-verdict : goal.returns-clause-verdict
returns-clause-verdict c = λ verdict e.
    subst (HasVerdict c.args.profile (map plain_file c.args.files.now))
    (same_Some (verdict_of_conclusion c.conclude.result) verdict e) c.conclude.ensures.verdict
