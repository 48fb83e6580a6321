use Rattle.mm_proof_laws.proofs.SmallProofLaws.SomeSmallProof.{some_small_holds}
use Rattle.mm_proof_laws.proofs.laws.some_small.Goals as goal

pub returns : goal.returns
returns c = some_small_holds
