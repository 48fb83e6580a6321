-- What was read since is no theorem.
use Rattle.std.proofs.Common.{List, length}
use Rattle.mm_base.specs.Statement.{PlainStatement}
use Rattle.mm_verdict.specs.Mirror.Rereading.{HasPassed, IsReadTo}
use Rattle.mm_verdict.proofs.theorems.Rereading.next_theorem.Given as goal

abbrev pub invariant-loop-id : goal.invariant-loop-id
invariant-loop-id l =
    (taken : List PlainStatement) → IsReadTo l.checked.files taken l.fn.self
    → HasPassed l.checked.files taken l.self

abbrev pub decreases-loop-id : goal.decreases-loop-id
decreases-loop-id l = length l.self.statements.statements
