use Rattle.mm_proof.proofs.ProofVerdicts.VerdictLaws.{limits_aside_holds}
use Rattle.mm_proof_laws.proofs.laws.limits_aside.Goals as goal

pub returns : goal.returns
returns c = limits_aside_holds
