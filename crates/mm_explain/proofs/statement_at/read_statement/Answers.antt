-- The files can't be taken, or the statement is sought.
use Rattle.std.proofs.Common.{map}
use Rattle.mm_text.specs.Files.{plain_file}
use Rattle.mm_base.proofs.Lists.{error_keeps}
use Rattle.mm_explain.proofs.LoneProofs.LoneTheorems.{load_unreached}
use Rattle.mm_explain.proofs.statement_at.read_statement.Goals as goal

pub returns-in_err-statements-clause-refused : goal.returns-in_err-statements-clause-refused
returns-in_err-statements-clause-refused c =
    error_keeps c.from_residual.result c.in_err-statements.field-0.0 _ c.from_residual.ensures.1
    (load_unreached (map plain_file c.args.files.now) c.args.label.now c.in_err-statements.field-0.0
    c.in_err-statements.ensures.load)
