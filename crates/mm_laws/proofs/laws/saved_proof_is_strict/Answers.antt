use Rattle.mm_laws.proofs.SavingLaws.SavedOnce.{saved_proof_is_strict}
use Rattle.mm_laws.proofs.laws.saved_proof_is_strict.Goals as goal

pub returns : goal.returns
returns c = saved_proof_is_strict
