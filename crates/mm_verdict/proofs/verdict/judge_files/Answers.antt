-- The files can't be taken, or their statements are judged.
use Rattle.std.proofs.Common.{map}
use Rattle.mm_text.specs.Files.{plain_file}
use Rattle.mm_base.proofs.Lists.{error_keeps}
use Rattle.mm_verdict.proofs.Verdicts.LoopOverStatements.{load_stops}
use Rattle.mm_verdict.proofs.verdict.judge_files.Goals as goal

pub returns-in_err-statements-clause-stopped : goal.returns-in_err-statements-clause-stopped
returns-in_err-statements-clause-stopped g c =
    error_keeps c.from_residual.result c.in_err-statements.field-0.0 _ c.from_residual.ensures.1
    (load_stops g.V.Visitor.has_seen g.V.Visitor.may_stop c.args.profile
    (map plain_file c.args.files.now) c.args.visitor.now c.args.visitor.now
    c.in_err-statements.field-0.0 c.in_err-statements.ensures.load)
