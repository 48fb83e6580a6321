-- The best of the labels so far.
use Rattle.std.proofs.Common.{ℕ, List, take}
use Rattle.mm_code.specs.Layout.{texts}
use Rattle.mm_groups.specs.Mirror.Sets.{HasLeft}
use Rattle.mm_groups.proofs.RarestLabels.{IsBest}
use Rattle.mm_groups.proofs.rarest.most_left.Given as goal

abbrev pub invariant-loop-label : goal.invariant-loop-label
invariant-loop-label l =
    (limit : ℕ) (count : List ℕ → ℕ) → HasLeft limit count (texts l.labels) l.left
    → IsBest limit count (texts (take l.label-index l.labels)) l.best l.most
