use Rattle.std.proofs.Common.{inl, inr}
use Rattle.std.proofs.lemmas.Result.{err_from_is_err_and, on_ok_weaker}
use Rattle.mm_proof.proofs.ProofVerdicts.FirstFault.{on_rule_map, rules_map}
use Rattle.mm_proof.proofs.ProofNumbers.NumberedLabels.{reading_said, reading_usable}
use Rattle.mm_proof.proofs.ProofNumbers.NumberedLabels.{whole_fault_there}
use Rattle.mm_proof.proofs.parse.fill_under.Goals as goal

pub returns-in_err-fill_steps-clause-fault : goal.returns-in_err-fill_steps-clause-fault
returns-in_err-fill_steps-clause-fault c =
    let p = err_from_is_err_and c.from_residual.result c.from_residual.ensures.1 in
    rw (p.1, p.2) (on_rule_map c.in_err-fill_steps.field-0.0 _ _ (λ rule step h. λ index s proof.
    let f = whole_fault_there _ _ _ _ _ rule step c.requires.proof.numbered h index s proof in
    (f.0, inl f.1)) c.in_err-fill_steps.ensures.fault)

pub judge_form-requires-clause-says : goal.judge_form-requires-clause-says
judge_form-requires-clause-says c =
    rw (c.deref-in-Strict.ensures.value, c.deref-in-Strict-2.ensures.value)
    (reading_said _ _ _ _ _ _ c.requires.proof.numbered c.in_ok-fill_steps.ensures.ok)

pub judge_form-requires-clause-steps : goal.judge_form-requires-clause-steps
judge_form-requires-clause-steps c =
    rw (c.deref-in-Strict.ensures.value, c.deref-in-Strict-2.ensures.value)
    (reading_usable _ _ _ _ _ _ _ _ c.requires.proof.numbered c.requires.proof
    c.in_ok-fill_steps.ensures.ok)

pub returns-in-Strict-clause-fault : goal.returns-in-Strict-clause-fault
returns-in-Strict-clause-fault c =
    rules_map c.judge_form.result _ _ (λ rule step h. λ index s proof.
    let f = h index s proof in
    let said = reading_said _ _ _ _ _ _ c.requires.proof.numbered c.in_ok-fill_steps.ensures.ok in
    (f.0, inr ((said index s proof).0, f.1, λ form. f.2 (rw c.in-Strict.is at form))))
    c.judge_form.ensures.fault

pub returns-in-Strict-clause-steps : goal.returns-in-Strict-clause-steps
returns-in-Strict-clause-steps c =
    on_ok_weaker c.judge_form.result (λ strict. reading_said _ _ _ _ _ _ c.requires.proof.numbered
    c.in_ok-fill_steps.ensures.ok) c.judge_form.ensures.strict

pub returns-in-Strict-clause-usable : goal.returns-in-Strict-clause-usable
returns-in-Strict-clause-usable c =
    on_ok_weaker c.judge_form.result (λ strict. reading_usable _ _ _ _ _ _ _ _
    c.requires.proof.numbered c.requires.proof c.in_ok-fill_steps.ensures.ok)
    c.judge_form.ensures.strict

pub returns-in-Lenient-clause-steps : goal.returns-in-Lenient-clause-steps
returns-in-Lenient-clause-steps c =
    reading_said _ _ _ _ _ _ c.requires.proof.numbered c.in_ok-fill_steps.ensures.ok

pub returns-in-Lenient-clause-usable : goal.returns-in-Lenient-clause-usable
returns-in-Lenient-clause-usable c =
    reading_usable _ _ _ _ _ _ _ _ c.requires.proof.numbered c.requires.proof
    c.in_ok-fill_steps.ensures.ok
