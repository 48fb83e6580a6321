use Rattle.mm_proof_laws.proofs.SmallProofLaws.FewestLetters.{no_better_order_holds}
use Rattle.mm_proof_laws.proofs.laws.no_better_order.Goals as goal

pub returns : goal.returns
returns c = no_better_order_holds
