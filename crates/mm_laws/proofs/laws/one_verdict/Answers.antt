-- By the law of verdicts.
use Rattle.mm_verdict.proofs.Verdicts.OneVerdict as verdicts
use Rattle.mm_laws.proofs.laws.one_verdict.Goals as goal

pub returns : goal.returns
returns c = verdicts.one_verdict
