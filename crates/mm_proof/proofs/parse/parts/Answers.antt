use Rattle.std.proofs.Common.{refl, ◌+◌}
use Rattle.std.proofs.lemmas.List.{take_rest}
use Rattle.mm_proof.proofs.ProofTokens.ProofCodes.{parts_given}
use Rattle.mm_proof.proofs.parse.parts.Goals as goal

pub returns : goal.returns
returns c = parts_given c.args.rest.now _ _ c.in_ok-index.index refl (take_rest c.args.rest.now (c.in_ok-index.index + 1)) c.in_ok-index.ensures.1 c.in_ok-index.ensures.2
