-- The files of both versions are as they were read, or one wasn't read.
use Rattle.mm_base.proofs.Lists.{error_keeps}
use Rattle.mm_serve.proofs.ComparedVersions.{new_fault, old_fault}
use Rattle.mm_serve.proofs.versions.read_versions.Goals as goal

pub returns-clause-read : goal.returns-clause-read
returns-clause-read g c =
    let (olds, held, within, reads) = c.in_ok-old.ensures.read in
    let (news, held_too, within_too, reads_too) = c.in_ok-new.ensures.read in
    (olds, news, (held, within), (held_too, within_too), reads, reads_too)

pub returns-in_err-old-clause-fault : goal.returns-in_err-old-clause-fault
returns-in_err-old-clause-fault g c =
    error_keeps _ _ _ c.from_residual.ensures.1
    (old_fault _ _ _ _ _ c.in_err-old.field-0.0 c.in_err-old.ensures.fault)

pub returns-in_err-new-clause-fault : goal.returns-in_err-new-clause-fault
returns-in_err-new-clause-fault g c =
    let (olds, held, within, reads) = c.in_ok-old.ensures.read in
    error_keeps _ _ _ c.from_residual-in_err-new.ensures.1
    (new_fault _ _ _ _ _ olds (held, within) c.in_err-new.field-0.0 c.in_err-new.ensures.fault)
