use Rattle.mm_laws.proofs.SavingLaws.AllSavedFiles.{saving_all_changes_no_answer}
use Rattle.mm_laws.proofs.laws.saving_all_changes_no_answer.Goals as goal

pub returns : goal.returns
returns c = saving_all_changes_no_answer
