use Rattle.mm_forms.proofs.FullSharing.OneSharedProof.{one_packed_holds}
use Rattle.mm_proof_laws.proofs.laws.one_packed.Goals as goal

pub returns : goal.returns
returns c = one_packed_holds
