use Rattle.std.proofs.Common.{length, arith}
use Rattle.mm_step.proofs.StoreRanges.{parts-cut, within-later}
use Rattle.mm_step.proofs.flat.Flat.cut.Goals as goal

pub returns-clause-stack : goal.returns-clause-stack
returns-clause-stack c =
    rw c.truncate.ensures
    (parts-cut _ c.args.self.now.symbols _ (within-later c.needed_length.result _ _ (omega (arith, c.max-needed.ensures)) (rw c.deref.ensures.value at c.needed_length.ensures.needed)))

pub returns-clause-kept : goal.returns-clause-kept
returns-clause-kept c =
    rw c.truncate.ensures
    (parts-cut _ c.args.self.now.symbols _ (within-later c.needed_length-2.result _ _ (omega (arith, c.max-needed.ensures)) (rw c.deref-2.ensures.value at c.needed_length-2.ensures.needed)))

pub needed_length-requires : goal.needed_length-requires
needed_length-requires c = (length c.args.self.now.symbols, rw c.deref.ensures.value c.args.self.now.stacked)

pub needed_length-requires-2 : goal.needed_length-requires-2
needed_length-requires-2 c = (length c.args.self.now.symbols, rw c.deref-2.ensures.value c.args.self.now.saved)
