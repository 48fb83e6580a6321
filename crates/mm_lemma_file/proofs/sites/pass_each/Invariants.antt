-- The statements that are left become fewer.
use Rattle.std.proofs.Common.{length}
use Rattle.mm_lemma_file.proofs.sites.pass_each.Given as goal

abbrev pub decreases-loop-walk : goal.decreases-loop-walk
decreases-loop-walk l = length l.statements.statements
