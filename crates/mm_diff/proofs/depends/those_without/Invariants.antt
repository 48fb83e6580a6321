-- Those of the numbers so far.
use Rattle.std.proofs.Common.{map, take, Contains}
use Rattle.mm_rules.specs.Rests.{AreInOrder}
use Rattle.mm_diff.specs.Mirror.Depends.{HasTwinAmong}
use Rattle.mm_diff.proofs.depends.those_without.Given as goal

abbrev pub invariant-loop-id : goal.invariant-loop-id
invariant-loop-id l =
    AreInOrder (λ n. Contains (map (λ x. x.0) (take l.id-index l.axioms)) n
    × ¬ (HasTwinAmong l.twins (map (λ x. x.0) l.others) n)) (map (λ x. x.0) l.without.items)
