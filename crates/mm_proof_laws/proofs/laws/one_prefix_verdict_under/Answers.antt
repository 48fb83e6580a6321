use Rattle.mm_proof.proofs.ProofVerdicts.ProfileVerdicts.{one_prefix_verdict_under_holds}
use Rattle.mm_proof_laws.proofs.laws.one_prefix_verdict_under.Goals as goal

pub returns : goal.returns
returns c = one_prefix_verdict_under_holds
