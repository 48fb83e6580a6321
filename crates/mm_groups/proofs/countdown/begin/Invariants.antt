-- The limit is left for the labels so far.
use Rattle.std.proofs.Common.{◌≡◌, ℕ, List, take}
use denote.Ref.{Bor}
use Rattle.indexmap.specs.IndexMap.{get}
use Rattle.mm_code.specs.Layout.{texts}
use Rattle.mm_groups.specs.Shared.{is_in}
use Rattle.mm_groups.specs.Mirror.Sets.{same_bytes, left_at_first}
use Rattle.mm_groups.proofs.countdown.begin.Given as goal

abbrev pub invariant-loop-label : goal.invariant-loop-label
invariant-loop-label l =
    (label : Bor (List ℕ)) → get same_bytes l.left label
    ≡ left_at_first l.limit (is_in (texts (take l.label-index l.labels)) label.now)
