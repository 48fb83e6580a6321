-- By the law of reports.
use Rattle.mm_axioms.proofs.Resting.RestsOn as reports
use Rattle.mm_laws.proofs.laws.one_report.Goals as goal

pub returns : goal.returns
returns c = reports.one_report
