-- The entries so far are the same labels.
use Rattle.std.proofs.Common.{take}
use Rattle.mm_alike.specs.Mirror.Steps.{AreSameEntries}
use Rattle.mm_alike.proofs.moves.are_same_entries.Given as goal

abbrev pub invariant-loop-at : goal.invariant-loop-at
invariant-loop-at l =
    AreSameEntries l.old.statements l.new.statements (take l.at l.entries) (take l.at l.others)
