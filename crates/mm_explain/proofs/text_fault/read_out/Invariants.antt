-- The reading ends as it did.
use Rattle.std.proofs.Common.{◌≡◌, length}
use Rattle.mm_explain.proofs.text_fault.read_out.Given as goal

abbrev pub invariant-loop : goal.invariant-loop
invariant-loop l = l.statements.ending ≡ l.fn.statements.ending

abbrev pub decreases-loop : goal.decreases-loop
decreases-loop l = length l.statements.statements
