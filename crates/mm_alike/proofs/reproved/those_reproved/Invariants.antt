-- Those that are reproved among the numbers so far.
use Rattle.std.proofs.Common.{map}
use Rattle.mm_alike.proofs.CheckedTheorems.{AreReprovedTo}
use Rattle.mm_alike.proofs.reproved.those_reproved.Given as goal

abbrev pub invariant-loop-number : goal.invariant-loop-number
invariant-loop-number l =
    AreReprovedTo l.checked l.other_checked l.number (map (λ x. x.0) l.those.items)
