-- The marks that are left follow those so far.
use Rattle.std.proofs.Common.{◌≡◌, ◌++◌, drop, false}
use Rattle.mm_find.specs.Mirror.Marks.{spread}
use Rattle.mm_find.proofs.shape.after_any.Given as goal

abbrev pub invariant-loop-mark : goal.invariant-loop-mark
invariant-loop-mark l =
    l.next.items ++ spread l.any (drop l.mark-index l.marks) ≡ spread false l.marks
