use Rattle.mm_laws.proofs.SavingLaws.SavedOnce.{saving_again}
use Rattle.mm_laws.proofs.laws.saving_again_changes_nothing.Goals as goal

pub returns : goal.returns
returns c = saving_again
