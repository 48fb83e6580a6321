-- The axioms and the unproved theorems in the theorem's rows.
use Rattle.mm_axioms.proofs.report.report_in.Goals as goal

pub returns : goal.returns
returns c = record {
  axioms = rw c.deref.ensures.value at c.in_ok-axioms.ensures;
  unproved = c.in_ok-unproved.ensures;
}
