use Rattle.mm_forms.proofs.FullSharing.FewestSteps.{fewest_steps_holds}
use Rattle.mm_proof_laws.proofs.laws.fewest_steps.Goals as goal

pub returns : goal.returns
returns c = fewest_steps_holds
