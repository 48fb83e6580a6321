-- The bytes so far are those of the source with the changes so far.
use Rattle.std.proofs.Common.{take}
use Rattle.mm_with_lemmas.specs.Mirror.Editing.{IsEditedUpTo}
use Rattle.mm_with_lemmas.proofs.edited.are_edited.Given as goal

abbrev pub invariant-loop-change : goal.invariant-loop-change
invariant-loop-change l =
    IsEditedUpTo l.source (take l.change-index l.changes) l.taken l.bytes l.rest
