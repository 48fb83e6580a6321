-- The patterns are those of the query.
use Rattle.mm_find.proofs.query.is_asked_for.Goals as goal

pub returns : goal.returns
returns c = rw c.deref.ensures.value at c.are_met.ensures
