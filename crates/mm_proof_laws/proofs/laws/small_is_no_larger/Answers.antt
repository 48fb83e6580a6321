use Rattle.mm_proof_laws.proofs.SmallProofLaws.FewestLetters.{small_is_no_larger_holds}
use Rattle.mm_proof_laws.proofs.laws.small_is_no_larger.Goals as goal

pub returns : goal.returns
returns c = small_is_no_larger_holds
