-- None of those so far is it.
use Rattle.std.proofs.Common.{take}
use Rattle.mm_diff.proofs.OneAssertions.{IsNoPair}
use Rattle.mm_diff.proofs.twins.renamed_from.Given as goal

abbrev pub invariant-loop-renaming : goal.invariant-loop-renaming
invariant-loop-renaming l = IsNoPair (take l.renaming-index l.renamed) l.id.0
