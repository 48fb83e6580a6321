-- By the law that files have a verdict.
use Rattle.mm_verdict.proofs.Verdicts.OneVerdict as existence
use Rattle.mm_laws.proofs.laws.some_verdict.Goals as goal

pub returns : goal.returns
returns c = existence.some_verdict
