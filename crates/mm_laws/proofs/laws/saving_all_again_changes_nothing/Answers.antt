use Rattle.mm_laws.proofs.SavingLaws.AllSavedFiles.{saving_all_again_changes_nothing}
use Rattle.mm_laws.proofs.laws.saving_all_again_changes_nothing.Goals as goal

pub returns : goal.returns
returns c = saving_all_again_changes_nothing
