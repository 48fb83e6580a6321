use Rattle.std.proofs.Common.{◌≡◌, take}
use Rattle.mm_step.specs.Stores.{numbers_in, entries_in, all_said_by}
use Rattle.mm_distinct.proofs.asked.said_of.Given as goal

abbrev pub invariant-loop-piece : goal.invariant-loop-piece
invariant-loop-piece l =
    numbers_in l.said.items ≡ all_said_by (entries_in l.entries) (take l.piece-index l.pieces)
