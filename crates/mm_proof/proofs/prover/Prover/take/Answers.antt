-- The book's answer is the prover's.
use Rattle.mm_proof.proofs.prover.Prover.take.Goals as goal

pub returns-clause-rule : goal.returns-clause-rule
returns-clause-rule c broken is = rw (← c.self.view_is) (c.take.ensures.rule broken is)
