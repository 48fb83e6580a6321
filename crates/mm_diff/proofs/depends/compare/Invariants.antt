-- What is told of the theorems so far.
use Rattle.std.proofs.Common.{map, take}
use Rattle.mm_diff.specs.Mirror.Changes.{plain_dependence}
use Rattle.mm_diff.proofs.FurtherAxioms.{AreComparedTo}
use Rattle.mm_diff.proofs.depends.compare.Given as goal

abbrev pub invariant-loop-id : goal.invariant-loop-id
invariant-loop-id l =
    AreComparedTo l.old l.new (map (λ x. x.0) (take l.id-index l.ids))
    (map plain_dependence l.further.items) (map plain_dependence l.less.items)
