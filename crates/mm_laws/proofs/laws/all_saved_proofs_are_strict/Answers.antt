use Rattle.mm_laws.proofs.SavingLaws.AllSavedFiles.{all_saved_proofs_are_strict}
use Rattle.mm_laws.proofs.laws.all_saved_proofs_are_strict.Goals as goal

pub returns : goal.returns
returns c = all_saved_proofs_are_strict
