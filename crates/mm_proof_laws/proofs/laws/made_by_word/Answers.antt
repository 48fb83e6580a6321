use Rattle.mm_forms.proofs.TreeBuilding.TreeWords.{made_by_word_holds}
use Rattle.mm_proof_laws.proofs.laws.made_by_word.Goals as goal

pub returns : goal.returns
returns c = made_by_word_holds
