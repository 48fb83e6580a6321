-- The hypotheses so far say the same.
use Rattle.std.proofs.Common.{◌≡◌, take}
use Rattle.mm_alike.specs.Mirror.Names.{said_of}
use Rattle.mm_alike.proofs.names.say_the_same.Given as goal

abbrev pub invariant-loop-at : goal.invariant-loop-at
invariant-loop-at l =
    said_of l.old.statements (take l.at l.one) ≡ said_of l.new.statements (take l.at l.other)
