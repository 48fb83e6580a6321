-- The set has the labels so far.
use Rattle.std.proofs.Common.{◌≡◌, ℕ, List, take}
use denote.Ref.{Bor}
use Rattle.indexmap.specs.IndexSet.{contains}
use Rattle.mm_code.specs.Layout.{texts}
use Rattle.mm_groups.specs.Shared.{is_in}
use Rattle.mm_groups.specs.Mirror.Sets.{same_bytes}
use Rattle.mm_groups.proofs.common.set_of.Given as goal

abbrev pub invariant-loop-label : goal.invariant-loop-label
invariant-loop-label l =
    (label : Bor (List ℕ)) → contains same_bytes l.set label
    ≡ is_in (texts (take l.label-index l.labels)) label.now
