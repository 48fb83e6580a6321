-- What is accepted is proved; what is not has its first fault.
use Rattle.std.proofs.Common.{Err, ap}
use Rattle.mm_rules.specs.Compared.{text_fault}
use Rattle.mm_render.proofs.ToldProofs.ComparedTexts.{fails_as}
use Rattle.mm_base.proofs.Lists.{error_keeps}
use Rattle.mm_render.proofs.comparison.judge_steps.Goals as goal

pub returns-in_err-_used-clause-fault : goal.returns-in_err-_used-clause-fault
returns-in_err-_used-clause-fault c =
    error_keeps c.from_residual.result (text_fault c.in_err-_used.field-0.0) _
    c.from_residual.ensures.1
    (fails_as c.in_err-_used.field-0.0 _
    (λ rule step is. c.in_err-_used.ensures.fault c.requires.whole rule step (ap Err is)))

pub returns-clause-proved : goal.returns-clause-proved
returns-clause-proved c = λ index s moves number numbered.
    (c.in_ok-_used.ensures.proved c.requires.whole index s moves number numbered).0
