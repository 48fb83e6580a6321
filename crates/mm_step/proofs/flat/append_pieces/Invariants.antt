use Rattle.std.proofs.Common.{◌≡◌, List, ◌++◌, take, drop}
use Rattle.mm_frame.specs.declared.number.Sym.{Sym}
use Rattle.mm_step.specs.Mirror.Buffer.{parts_of}
use Rattle.mm_step.specs.Stores.{numbers_in, all_said_by}
use Rattle.mm_step.proofs.flat.append_pieces.Given as goal

abbrev pub invariant-loop-piece : goal.invariant-loop-piece
invariant-loop-piece l =
    (more : List Sym) × (l.symbols ≡ l.fn.symbols ++ more)
    × (numbers_in more ≡ all_said_by (drop l.base (parts_of l.fn.symbols l.stack)) (take l.piece-index l.pieces))
