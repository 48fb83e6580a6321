-- The statement that is sought is left, and what is left was left at first.
use Rattle.std.proofs.Common.{length}
use Rattle.mm_verdict.specs.Mirror.Theorems.{IsStillLeft}
use Rattle.mm_verdict.proofs.reread.seek.Given as goal

abbrev pub invariant-loop-into : goal.invariant-loop-into
invariant-loop-into l = IsStillLeft l.label l.fn.statements l.statements

abbrev pub decreases-loop-into : goal.decreases-loop-into
decreases-loop-into l = length l.statements.statements
