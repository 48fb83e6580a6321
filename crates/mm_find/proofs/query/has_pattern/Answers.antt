-- By what an expression must have of the pattern.
use Rattle.mm_find.proofs.query.has_pattern.Goals as goal

pub returns-in-Shapes : goal.returns-in-Shapes
returns-in-Shapes c = rw c.in-Shapes.is c.has_shape.ensures
