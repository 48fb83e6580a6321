use Rattle.mm_step.proofs.flat.put_said.Goals as goal

pub returns-clause-said : goal.returns-clause-said
returns-clause-said c = rw c.if-has_put.ensures at c.append_pieces.ensures.said
