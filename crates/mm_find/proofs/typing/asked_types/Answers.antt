-- Of shapes none are asked.
use Rattle.std.proofs.Common.{map}
use Rattle.std.proofs.lemmas.Result.{IfOk-weaker}
use Rattle.mm_text.specs.Files.{plain_file}
use Rattle.mm_find.proofs.Listings.{asked_shapes, asked_variants}
use Rattle.mm_find.proofs.typing.asked_types.Goals as goal

pub returns-in-Shapes-clause-typed : goal.returns-in-Shapes-clause-typed
returns-in-Shapes-clause-typed c =
    asked_shapes c.args.matching (map plain_file c.args.files.now) c.new.result
    c.in-Shapes.is

pub returns-in-Variants-clause-typed : goal.returns-in-Variants-clause-typed
returns-in-Variants-clause-typed c =
    IfOk-weaker c.read_types.result _ _
    (λ types typed. asked_variants c.args.matching (map plain_file c.args.files.now) types typed)
    c.read_types.ensures.typed
