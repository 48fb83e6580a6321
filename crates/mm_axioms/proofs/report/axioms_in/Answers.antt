-- The axioms in the theorem's row.
use Rattle.mm_axioms.proofs.report.axioms_in.Goals as goal

pub returns : goal.returns
returns c = rw c.deref.ensures.value at c.reached.ensures
