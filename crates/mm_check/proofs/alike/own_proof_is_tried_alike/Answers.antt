-- By the law of the two replies.
use Rattle.mm_check.proofs.OwnProofs.{own_proof_is_tried_alike}
use Rattle.mm_check.proofs.alike.own_proof_is_tried_alike.Goals as goal

pub returns : goal.returns
returns c = own_proof_is_tried_alike
