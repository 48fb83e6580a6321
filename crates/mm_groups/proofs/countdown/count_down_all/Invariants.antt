-- So much less is left as the labels so far are named.
use Rattle.std.proofs.Common.{◌≡◌, ℕ, List, take}
use denote.Ref.{Bor}
use Rattle.indexmap.specs.IndexMap.{get}
use Rattle.mm_code.specs.Layout.{texts}
use Rattle.mm_groups.specs.Shared.{times_in}
use Rattle.mm_groups.specs.Mirror.Sets.{same_bytes, left_after}
use Rattle.mm_groups.proofs.countdown.count_down_all.Given as goal

abbrev pub invariant-loop-label : goal.invariant-loop-label
invariant-loop-label l =
    (other : Bor (List ℕ)) → get same_bytes l.left other
    ≡ left_after (times_in (texts (take l.label-index l.labels)) other.now)
    (get same_bytes l.fn.left other)
