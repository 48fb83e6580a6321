-- One more number.
use Rattle.std.proofs.Common.{List, map, subst}
use Rattle.std.proofs.lemmas.List.{take_all}
use Rattle.mm_frame.specs.declared.number.LabelId.{LabelId}
use Rattle.mm_with_lemmas.specs.Mirror.Using.{AreStamped}
use Rattle.mm_with_lemmas.proofs.HeededUses.{below_later, below_on, none_stamped, stamped_on}
use Rattle.mm_with_lemmas.proofs.stamps.stamp_all.Goals as goal

pub loop-id-init : goal.loop-id-init
loop-id-init c = record {
  below = below_later c.args.stamp c.args.marks.now c.requires;
  stamped = none_stamped c.args.stamp c.args.marks.now c.requires;
}

pub loop-id-preserved : goal.loop-id-preserved
loop-id-preserved c = record {
  below =
      below_on c.loop-id.marks c.put_stamp.new.marks c.args.stamp _ c.loop-id.invariant.below
      c.put_stamp.ensures;
  stamped =
      stamped_on c.loop-id.marks c.put_stamp.new.marks c.args.stamp c.args.ids.now
      c.loop-id.id-index _ c.loop-id-test.true c.loop-id.invariant.stamped c.put_stamp.ensures;
}

pub returns-clause-stamped : goal.returns-clause-stamped
returns-clause-stamped c =
    subst (λ (ids : List LabelId). AreStamped c.args.stamp c.loop-id.marks
    (map (λ (i : LabelId). i.0) ids))
    (take_all c.loop-id.id-index c.args.ids.now c.loop-id-test.false) c.loop-id.invariant.stamped
