use Rattle.mm_forms.proofs.SmallProofs.OneSmallProof.{one_small_holds}
use Rattle.mm_proof_laws.proofs.laws.one_small.Goals as goal

pub returns : goal.returns
returns c = one_small_holds
