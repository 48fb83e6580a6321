-- The codes so far say the same moves.
use Rattle.std.proofs.Common.{take}
use Rattle.mm_proof.specs.Mirror.CodeSteps.{moves_of}
use Rattle.mm_alike.specs.Mirror.Steps.{AreSameMoves}
use Rattle.mm_alike.proofs.moves.say_same_moves.Given as goal

abbrev pub invariant-loop-at : goal.invariant-loop-at
invariant-loop-at l =
    AreSameMoves l.old.statements l.new.statements (moves_of l.entries (take l.at l.codes))
    (moves_of l.others (take l.at l.other_codes))
