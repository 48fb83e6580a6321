use Rattle.mm_forms.proofs.FullSharing.FewestSteps.{steps_make_children_holds}
use Rattle.mm_proof_laws.proofs.laws.steps_make_children.Goals as goal

pub returns : goal.returns
returns c = steps_make_children_holds
