use Rattle.std.proofs.Common.{◌≡◌, take, drop}
use Rattle.mm_step.specs.Stores.{numbers_in, rows_in, all_said_by}
use Rattle.mm_step.proofs.rows.fill_said.Given as goal

abbrev pub invariant-loop-piece : goal.invariant-loop-piece
invariant-loop-piece l =
    numbers_in l.made.items ≡ all_said_by (drop l.base (rows_in l.rows)) (take l.piece-index l.pieces)
