use Rattle.mm_frame.specs.Mirror.Layout.{statements_of}
use Rattle.mm_frame.proofs.broken.breaks.Goals as goal

pub returns-in-M9 : goal.returns-in-M9
returns-in-M9 c = rw c.in-M9.is (c.breaks_m9.ensures (statements_of c.args.tables.now))
