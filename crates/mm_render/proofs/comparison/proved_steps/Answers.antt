-- The steps are what the tokens say; a fault of theirs is one of the tokens.
use Rattle.std.proofs.Common.{Ok, Err, inl, ap}
use Rattle.std.proofs.lemmas.Bool.{both_ways}
use Rattle.mm_step.specs.Plain.{token_texts}
use Rattle.mm_rules.specs.Compared.{text_fault}
use Rattle.mm_render.proofs.ToldProofs.ComparedTexts.{fails_as, unproved_of}
use Rattle.mm_base.proofs.Lists.{error_keeps}
use Rattle.mm_render.proofs.comparison.proved_steps.Goals as goal

pub returns-in_err-steps-clause-fault : goal.returns-in_err-steps-clause-fault
returns-in_err-steps-clause-fault c =
    error_keeps c.from_residual.result (text_fault c.in_err-steps.field-0.0) _
    c.from_residual.ensures.1
    (fails_as c.in_err-steps.field-0.0 _
    (λ rule step is index s number. inl (c.in_err-steps.ensures.fault
    (both_ways _ c.requires.complete) rule step (ap Err is) index s number)))

pub unreachable-requires : goal.unreachable-requires
unreachable-requires c =
    both_ways _ c.requires.complete
    (c.in_ok-steps.ensures.incomplete c.in-Incomplete.field-0 (ap Ok c.in-Incomplete.is)).0

pub judge_steps-requires-clause-whole : goal.judge_steps-requires-clause-whole
judge_steps-requires-clause-whole c =
    (c.in_ok-steps.ensures.complete c.in-Steps.steps (ap Ok c.in-Steps.is)).1

pub returns-in_err-judge_steps-in-Steps-clause-fault : goal.returns-in_err-judge_steps-in-Steps-clause-fault
returns-in_err-judge_steps-in-Steps-clause-fault c =
    let was = ap Ok c.in-Steps.is in
    error_keeps c.from_residual-in_err-judge_steps-in-Steps.result
    c.in_err-judge_steps-in-Steps.field-0.0 _
    c.from_residual-in_err-judge_steps-in-Steps.ensures.1
    (unproved_of c.args.profile c.args.book.now.statements c.args.id.0
    (token_texts c.args.tokens.now) c.in-Steps.steps c.in_err-judge_steps-in-Steps.field-0.0
    (c.in_ok-steps.ensures.profile c.in-Steps.steps was)
    (c.in_ok-steps.ensures.steps c.in-Steps.steps was)
    (c.in_ok-steps.ensures.form c.in-Steps.steps was)
    c.in_err-judge_steps-in-Steps.ensures.fault)

pub returns-clause-said : goal.returns-clause-said
returns-clause-said c = c.in_ok-steps.ensures.steps c.in-Steps.steps (ap Ok c.in-Steps.is)

pub returns-clause-form : goal.returns-clause-form
returns-clause-form c =
    c.in_ok-steps.ensures.form c.in-Steps.steps (ap Ok c.in-Steps.is)

pub returns-clause-whole : goal.returns-clause-whole
returns-clause-whole c =
    (c.in_ok-steps.ensures.complete c.in-Steps.steps (ap Ok c.in-Steps.is)).1
