use Rattle.std.proofs.Common.{◌≡◌, List, ◌++◌, length, map}
use Rattle.mm_code.specs.SmallLayout.{LinePiece, letter}
use Rattle.mm_code.specs.Mirror.SmallLines.{small_rest}
use Rattle.mm_code.proofs.small_layout.add_further_letters.Given as goal

-- the letters that are left follow the text so far
abbrev pub invariant-loop-rest : goal.invariant-loop-rest
invariant-loop-rest l = (more : List LinePiece) →
    l.text.items ++ small_rest l.indent l.left (map letter l.rest ++ more)
    ≡ l.fn.text.items ++ small_rest l.indent l.room (map letter l.letters ++ more)

abbrev pub decreases-loop-rest : goal.decreases-loop-rest
decreases-loop-rest l = length l.rest
