use Rattle.std.proofs.Common.{◌≡◌}
use Rattle.mm_step.specs.declared.fault.ProofFault.TheVariants.{Rule}
use Rattle.mm_proof.proofs.moves.Steps.parse.Goals as goal

pub returns-in-Err-clause-known_fault : goal.returns-in-Err-clause-known_fault
returns-in-Err-clause-known_fault c unknown rule step is =
    let same : c.in-Err.fault ≡ Rule rule step = cc in
    rw same at c.in-Err.ensures.fault

pub returns-in-Err-steps_of-clause-fault : goal.returns-in-Err-steps_of-clause-fault
returns-in-Err-steps_of-clause-fault c known rule step is =
    let same : c.in-Err-steps_of.fault ≡ Rule rule step = cc in
    rw same at c.in-Err-steps_of.ensures.fault
