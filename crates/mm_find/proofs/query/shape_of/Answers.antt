-- By whether it is that of a whole expression.
use Rattle.mm_find.proofs.query.shape_of.Goals as goal

pub returns-then-whole : goal.returns-then-whole
returns-then-whole c = rw c.if-whole.true c.copied.ensures

pub returns-else-whole : goal.returns-else-whole
returns-else-whole c = rw c.if-whole.false c.anywhere.ensures
