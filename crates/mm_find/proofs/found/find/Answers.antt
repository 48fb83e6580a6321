-- The files can't be taken, or the statements are listed.
use Rattle.std.proofs.Common.{map}
use Rattle.std.proofs.lemmas.Result.{IfOk-weaker}
use Rattle.mm_text.specs.Files.{plain_file}
use Rattle.mm_base.proofs.Lists.{error_keeps}
use Rattle.mm_find.specs.Plain.{plain_query}
use Rattle.mm_find.proofs.Listings.{listed_by, load_unlisted}
use Rattle.mm_find.proofs.found.find.Goals as goal

pub returns-in_err-types-clause-fault : goal.returns-in_err-types-clause-fault
returns-in_err-types-clause-fault c =
    error_keeps c.from_residual.result c.in_err-types.field-0.0 _ c.from_residual.ensures.1
    c.in_err-types.ensures.fault

pub returns-in_err-statements-clause-fault : goal.returns-in_err-statements-clause-fault
returns-in_err-statements-clause-fault c =
    error_keeps c.from_residual-in_err-statements.result c.in_err-statements.field-0.0 _
    c.from_residual-in_err-statements.ensures.1
    (load_unlisted (map plain_file c.args.files.now) c.in_err-statements.field-0.0
    c.in_err-statements.ensures.load)

pub returns-clause-listed : goal.returns-clause-listed
returns-clause-listed c =
    IfOk-weaker c.list-outcome.result _ _
    (λ text all. listed_by (plain_query c.args.query.now) c.in_ok-types.types
    (map plain_file c.args.files.now) text.items c.in_ok-types.ensures.typed all)
    c.list-outcome.ensures.listed
