use Rattle.mm_forms.proofs.FullSharing.OneSharedProof.{told_by_packed_holds}
use Rattle.mm_proof_laws.proofs.laws.told_by_packed.Goals as goal

pub returns : goal.returns
returns c = told_by_packed_holds
