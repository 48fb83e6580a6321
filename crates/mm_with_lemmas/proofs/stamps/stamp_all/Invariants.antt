-- Those so far have the stamp.
use Rattle.std.proofs.Common.{◌+◌, map, take}
use Rattle.mm_frame.specs.declared.number.LabelId.{LabelId}
use Rattle.mm_with_lemmas.specs.Mirror.Using.{AreBelow, AreStamped}
use Rattle.mm_with_lemmas.proofs.stamps.stamp_all.Given as goal

abbrev pub invariant-loop-id : goal.invariant-loop-id
invariant-loop-id l = record {
  below : AreBelow (l.stamp + 1) l.marks;
  stamped : AreStamped l.stamp l.marks (map (λ (i : LabelId). i.0) (take l.id-index l.ids));
}
