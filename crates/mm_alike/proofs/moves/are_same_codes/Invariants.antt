-- The codes so far are the same.
use Rattle.std.proofs.Common.{◌≡◌, take}
use Rattle.mm_alike.proofs.moves.are_same_codes.Given as goal

abbrev pub invariant-loop-at : goal.invariant-loop-at
invariant-loop-at l = take l.at l.codes ≡ take l.at l.others
