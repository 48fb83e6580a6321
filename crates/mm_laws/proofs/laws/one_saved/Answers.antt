use Rattle.mm_laws.proofs.SavingLaws.SavedOnce.{one_saved}
use Rattle.mm_laws.proofs.laws.one_saved.Goals as goal

pub returns : goal.returns
returns c = one_saved
