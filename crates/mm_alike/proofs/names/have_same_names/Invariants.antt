-- The names so far are the same.
use Rattle.std.proofs.Common.{◌≡◌, take}
use Rattle.mm_alike.specs.Mirror.Names.{names_of}
use Rattle.mm_alike.proofs.names.have_same_names.Given as goal

abbrev pub invariant-loop-at : goal.invariant-loop-at
invariant-loop-at l =
    names_of l.old.statements (take l.at l.one) ≡ names_of l.new.statements (take l.at l.other)
