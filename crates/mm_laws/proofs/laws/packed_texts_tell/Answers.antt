-- By the law of packed texts.
use Rattle.mm_laws.proofs.SavingLaws.ProofTexts.{packed_texts}
use Rattle.mm_laws.proofs.laws.packed_texts_tell.Goals as goal

pub returns : goal.returns
returns c = packed_texts
