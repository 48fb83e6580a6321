-- Those so far, seen from the other database.
use Rattle.std.proofs.Common.{◌≡◌, map, take}
use Rattle.mm_diff.specs.Mirror.Changes.{plain_renaming}
use Rattle.mm_diff.specs.Mirror.Twins.{turned}
use Rattle.mm_diff.proofs.twins.turned_renamings.Given as goal

abbrev pub invariant-loop-renaming : goal.invariant-loop-renaming
invariant-loop-renaming l =
    map plain_renaming l.those.items
    ≡ map turned (map plain_renaming (take l.renaming-index l.renamed))
