use Rattle.mm_step.proofs.ByNumbers.CalledAssertions.{AreFirst, IsCalledAt}
use Rattle.mm_step.proofs.used.fill_called.Given as goal

abbrev pub invariant-loop-index : goal.invariant-loop-index
invariant-loop-index l = AreFirst (IsCalledAt l.calls l.marks) l.entries l.index l.named.ids.items
