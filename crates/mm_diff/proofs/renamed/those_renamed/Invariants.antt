-- Those that are renamed among the numbers so far.
use Rattle.std.proofs.Common.{map, take}
use Rattle.mm_diff.specs.Mirror.Changes.{plain_renaming}
use Rattle.mm_diff.proofs.RenamedLabels.{AreRenamedSoFar}
use Rattle.mm_diff.proofs.renamed.those_renamed.Given as goal

abbrev pub invariant-loop-id : goal.invariant-loop-id
invariant-loop-id l =
    AreRenamedSoFar l.other.statements l.book.statements
    (map (λ x. x.0) (take l.id-index l.alone)) (map plain_renaming l.those.items)
