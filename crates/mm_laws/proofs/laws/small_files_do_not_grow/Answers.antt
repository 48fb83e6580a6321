use Rattle.mm_laws.proofs.SavingLaws.AllSavedFiles.{all_small_no_longer}
use Rattle.mm_laws.proofs.SavingLaws.SavedOnce.{small_saved_no_longer}
use Rattle.mm_laws.proofs.laws.small_files_do_not_grow.Goals as goal

pub returns : goal.returns
returns c = record { one = small_saved_no_longer; all = all_small_no_longer }
