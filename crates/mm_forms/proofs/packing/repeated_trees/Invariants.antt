use Rattle.std.proofs.Common.{◌+◌, ◌≤◌, take, length}
use Rattle.mm_forms.specs.Mirror.CodeSharing.{labels_made}
use Rattle.mm_forms.proofs.PackedProofs.PackingLoops.{AreRepeated}
use Rattle.mm_forms.proofs.packing.repeated_trees.Given as goal

abbrev pub invariant-loop-one : goal.invariant-loop-one
invariant-loop-one l = record {
  are : AreRepeated l.trees (take l.one-index l.steps);
  few : length (labels_made (take l.one-index l.steps)) + length l.trees ≤ l.one-index;
}
