use Rattle.mm_proof.proofs.ProofVerdicts.ProfileVerdicts.{one_verdict_under_holds}
use Rattle.mm_proof_laws.proofs.laws.one_verdict_under.Goals as goal

pub returns : goal.returns
returns c = one_verdict_under_holds
