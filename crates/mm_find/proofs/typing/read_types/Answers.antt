-- The files can't be taken, or the types of the statements are noted.
use Rattle.std.proofs.Common.{map}
use Rattle.mm_text.specs.Files.{plain_file}
use Rattle.mm_base.proofs.Lists.{error_keeps}
use Rattle.mm_find.proofs.Listings.{load_unlisted}
use Rattle.mm_find.proofs.typing.read_types.Goals as goal

pub returns-in_err-statements-clause-fault : goal.returns-in_err-statements-clause-fault
returns-in_err-statements-clause-fault c =
    error_keeps c.from_residual.result c.in_err-statements.field-0.0 _ c.from_residual.ensures.1
    (load_unlisted (map plain_file c.args.files.now) c.in_err-statements.field-0.0
    c.in_err-statements.ensures.load)
