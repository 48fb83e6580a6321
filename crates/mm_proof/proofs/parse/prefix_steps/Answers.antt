use Rattle.mm_proof.proofs.parse.prefix_steps.Goals as goal

pub returns-clause-steps : goal.returns-clause-steps
returns-clause-steps c =
    rw (c.deref.ensures.value, c.in_ok-prefix.ensures) at c.steps_of.ensures.steps

pub returns-clause-fault : goal.returns-clause-fault
returns-clause-fault c =
    rw (c.deref.ensures.value, c.in_ok-prefix.ensures) at c.steps_of.ensures.fault
