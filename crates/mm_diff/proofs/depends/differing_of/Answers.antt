-- The axioms of each without those of the other.
use Rattle.mm_step.specs.Plain.{ids_in}
use Rattle.mm_diff.proofs.FurtherAxioms.{without_further}
use Rattle.mm_diff.proofs.depends.differing_of.Goals as goal

pub returns : goal.returns
returns c = (
  without_further c.args.new.now c.args.old.now c.args.side.now.twins.items c.args.id.0
      c.args.former.0 (ids_in c.in_ok-axioms.axioms.items) (ids_in c.in_ok-others.others.items)
      (ids_in c.in_ok-further.further.items) c.requires.side.twins c.in_ok-axioms.ensures
      c.in_ok-others.ensures
      (rw (c.deref.ensures.value, c.deref-2.ensures.value, c.deref-3.ensures.value) at
      c.in_ok-further.ensures),
  without_further c.args.old.now c.args.new.now c.args.old_side.now.twins.items
      c.args.former.0 c.args.id.0 (ids_in c.in_ok-others.others.items)
      (ids_in c.in_ok-axioms.axioms.items) (ids_in c.in_ok-less.less.items)
      c.requires.old_side.twins c.in_ok-others.ensures c.in_ok-axioms.ensures
      (rw (c.deref-4.ensures.value, c.deref-5.ensures.value, c.deref-6.ensures.value) at
      c.in_ok-less.ensures),
)
