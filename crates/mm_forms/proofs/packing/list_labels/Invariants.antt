use Rattle.std.proofs.Common.{take}
use Rattle.mm_step.specs.Plain.{ids_in}
use Rattle.mm_forms.specs.Mirror.CodeSharing.{labels_made}
use Rattle.mm_forms.proofs.PackedProofs.PackingLoops.{Listing}
use Rattle.mm_forms.proofs.packing.list_labels.Given as goal

abbrev pub invariant-loop-one : goal.invariant-loop-one
invariant-loop-one l = Listing l.fn.labels l.labels (labels_made (take l.one-index l.steps)) (ids_in l.listed.items)
