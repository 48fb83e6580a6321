-- Those of the labels so far are kept that are among the others.
use Rattle.std.proofs.Common.{◌≡◌, filter, take}
use Rattle.mm_code.specs.Layout.{texts}
use Rattle.mm_groups.specs.Shared.{is_in}
use Rattle.mm_groups.proofs.common.common.Given as goal

abbrev pub invariant-loop-label : goal.invariant-loop-label
invariant-loop-label l =
    texts l.both.items ≡ filter (is_in (texts l.others)) (texts (take l.label-index l.labels))
