use Rattle.std.proofs.Common.{◌≡◌, ◌≤◌, List, ◌++◌, take, drop, length}
use Rattle.mm_frame.specs.declared.number.Sym.{Sym}
use Rattle.mm_step.specs.Mirror.Buffer.{parts_of}
use Rattle.mm_step.specs.Stores.{numbers_in, all_said_by}
use Rattle.mm_step.proofs.said.put_pieces.Given as goal

abbrev pub invariant-loop-piece : goal.invariant-loop-piece
invariant-loop-piece l =
    (l.fn.used ≤ l.end) × (l.end ≤ length l.room) × (length l.room ≡ length l.fn.room) × (take l.fn.used l.room ≡ take l.fn.used l.fn.room)
    × (more : List Sym) × (take l.end l.room ≡ take l.fn.used l.fn.room ++ more)
    × (numbers_in more ≡ all_said_by (drop l.base (parts_of (take l.fn.used l.fn.room) l.stack)) (take l.piece-index l.pieces))
