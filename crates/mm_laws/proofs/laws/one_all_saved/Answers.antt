use Rattle.mm_laws.proofs.SavingLaws.SavedOnce.{one_all_saved}
use Rattle.mm_laws.proofs.laws.one_all_saved.Goals as goal

pub returns : goal.returns
returns c = one_all_saved
