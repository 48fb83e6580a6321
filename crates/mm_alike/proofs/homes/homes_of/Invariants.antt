-- The homes so far are those of the statements that were read.
use Rattle.std.proofs.Common.{length}
use Rattle.mm_alike.proofs.ProofWords.{AreHomesTo}
use Rattle.mm_alike.proofs.homes.homes_of.Given as goal

abbrev pub invariant-loop-statement : goal.invariant-loop-statement
invariant-loop-statement l = AreHomesTo l.checked.files l.statements l.homes.items

abbrev pub decreases-loop-statement : goal.decreases-loop-statement
decreases-loop-statement l = length l.statements.statements
