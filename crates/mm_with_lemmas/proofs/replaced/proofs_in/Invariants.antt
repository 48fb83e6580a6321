-- Those of the changes so far.
use Rattle.std.proofs.Common.{◌≡◌, take}
use Rattle.mm_with_lemmas.specs.Mirror.Editing.{proofs_in}
use Rattle.mm_with_lemmas.proofs.replaced.proofs_in.Given as goal

abbrev pub invariant-loop-change : goal.invariant-loop-change
invariant-loop-change l = l.proofs.items ≡ proofs_in (take l.change-index l.changes)
