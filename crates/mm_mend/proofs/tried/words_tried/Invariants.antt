-- The changes so far are those of the words so far.
use Rattle.std.proofs.Common.{◌≡◌, map}
use Rattle.std.specs.List.{range_with_len}
use Rattle.mm_mend.specs.declared.change.Change.TheVariants.{Words}
use Rattle.mm_mend.proofs.tried.words_tried.Given as goal

abbrev pub invariant-loop-at : goal.invariant-loop-at
invariant-loop-at l = l.changes.items ≡ map (λ at. Words at) (range_with_len 0 l.at)
