use Rattle.std.proofs.Common.{◌≡◌, ◌++◌, take, drop}
use Rattle.mm_step.specs.Stores.{numbers_in, all_said_by}
use Rattle.mm_step.proofs.substitution.is_said.Given as goal

abbrev pub invariant-loop-piece : goal.invariant-loop-piece
invariant-loop-piece g l =
    numbers_in l.fn.symbols ≡ all_said_by (drop l.base (g.S.Store.stack l.store)) (take l.piece-index l.pieces) ++ numbers_in l.rest
