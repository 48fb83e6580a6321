-- The law, as it is proved of the definitions.
use Rattle.mm_diff.proofs.DiffLaws.{tells_nothing}
use Rattle.mm_diff.proofs.laws.no_change.Goals as goal

pub returns : goal.returns
returns c = tells_nothing
