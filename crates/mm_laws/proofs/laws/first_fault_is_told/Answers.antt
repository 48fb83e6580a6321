-- By the law of all faults.
use Rattle.mm_verdict.proofs.Verdicts.FaultLists as lists
use Rattle.mm_laws.proofs.laws.first_fault_is_told.Goals as goal

pub returns : goal.returns
returns c = lists.first_fault
