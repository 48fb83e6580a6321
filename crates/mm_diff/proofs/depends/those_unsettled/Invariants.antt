-- Those among the numbers so far.
use Rattle.std.proofs.Common.{◌<◌, map}
use Rattle.mm_rules.specs.Rests.{AreInOrder}
use Rattle.mm_diff.specs.Mirror.Depends.{IsUnsettled}
use Rattle.mm_diff.proofs.depends.those_unsettled.Given as goal

abbrev pub invariant-loop-number : goal.invariant-loop-number
invariant-loop-number l =
    AreInOrder (λ n. (n < l.number)
    × IsUnsettled l.new.statements l.old.statements l.twins l.marks n)
    (map (λ x. x.0) l.those.items)
