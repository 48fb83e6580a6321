use Rattle.mm_proof.proofs.prover.allow_tokens.Goals as goal

pub returns-clause-fault : goal.returns-clause-fault
returns-clause-fault c =
    rw (c.deref.ensures.value, c.in_ok-prefix.ensures) at c.pass_tokens.ensures.fault
