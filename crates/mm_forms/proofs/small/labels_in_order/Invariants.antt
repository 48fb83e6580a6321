use Rattle.std.proofs.Common.{◌≡◌, Some, slice_get, take}
use Rattle.std.specs.List.{AllZip}
use Rattle.mm_forms.proofs.small.labels_in_order.Given as goal

abbrev pub invariant-loop-one : goal.invariant-loop-one
invariant-loop-one l =
    AllZip (λ one id. slice_get l.labels one.index ≡ Some id) (take l.one-index l.order)
    l.listed.items
