use Rattle.std.proofs.Common.{◌≡◌, ◌++◌, List, map, take}
use Rattle.mm_frame.specs.declared.piece.Piece.{Piece}
use Rattle.mm_frame.specs.Pieces.{variables_of, ArePieces}
use Rattle.mm_frame.proofs.pattern.push_pattern.Given as goal

abbrev pub invariant-loop-symbol : goal.invariant-loop-symbol
invariant-loop-symbol l =
    (more : List Piece) × (l.pieces.items ≡ l.fn.pieces.items ++ more)
    × ArePieces (variables_of l.hypotheses) (map (λ n. n.0) (take l.symbol-index l.symbols)) more
