-- The report is that of all axioms, or of those with the theorem's type code.
use Rattle.mm_check.proofs.question.report_of.Goals as goal

pub returns-then-essential-clause-report : goal.returns-then-essential-clause-report
returns-then-essential-clause-report c = rw c.if-essential.true c.essential_axioms.ensures.report

pub returns-else-essential-clause-report : goal.returns-else-essential-clause-report
returns-else-essential-clause-report c = rw c.if-essential.false c.axioms.ensures.report
