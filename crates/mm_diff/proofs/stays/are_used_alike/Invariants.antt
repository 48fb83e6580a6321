-- Those so far are.
use Rattle.std.proofs.Common.{take}
use Rattle.std.specs.List.{AllZip}
use Rattle.mm_diff.specs.Mirror.Twins.{IsUsedAlike}
use Rattle.mm_diff.proofs.stays.are_used_alike.Given as goal

abbrev pub invariant-loop-at : goal.invariant-loop-at
invariant-loop-at l =
    AllZip (λ id other. IsUsedAlike l.twins l.marks id.0 other.0) (take l.at l.used)
    (take l.at l.others)
