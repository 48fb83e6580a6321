use Rattle.std.proofs.Common.{inl, take}
use Rattle.std.proofs.lemmas.Result.{err_from_is_err_and, on_ok_weaker}
use Rattle.mm_proof.specs.Proof.{IsMovesFault}
use Rattle.mm_proof.proofs.ProofVerdicts.FirstFault.{on_rule_map, rules_map}
use Rattle.mm_proof.proofs.ProofNumbers.NumberedLabels.{tokens_prove, tokens_fail}
use Rattle.mm_proof.proofs.prover.prove_under.Goals as goal

pub judgement-requires-clause-steps : goal.judgement-requires-clause-steps
judgement-requires-clause-steps c =
    rw (c.deref.ensures.value, c.deref-2.ensures.value) c.in_ok-fill_under.ensures.usable

pub returns-clause-form : goal.returns-clause-form
returns-clause-form c =
    let form = rw (c.new-site.ensures.statements, c.new-site.ensures.number) at
    c.in_ok-fill_under.ensures.form in
    on_ok_weaker c.judgement.result (λ p. form) c.judgement.ensures.proved

pub returns-clause-proved : goal.returns-clause-proved
returns-clause-proved c =
    let site = c.new-site.ensures in
    rw (← site.statements, ← site.number, ← site.limit) (
    on_ok_weaker c.judgement.result (λ p. λ index s proof.
    tokens_prove _ _ _ _ _ _ c.in_ok-fill_under.ensures.steps
    (rw (c.deref.ensures.value, c.deref-2.ensures.value) at p) index s proof)
    c.judgement.ensures.proved)

pub returns-clause-fault : goal.returns-clause-fault
returns-clause-fault c =
    let site = c.new-site.ensures in
    let said = c.in_ok-fill_under.ensures in
    rw (← site.statements, ← site.number) (rules_map c.judgement.result _ _ (λ rule step f.
    tokens_fail (λ index s. IsMovesFault _ (take index _) s) c.args.profile _ _ _ _ rule step
    said.steps said.form (rw (c.deref.ensures.value, c.deref-2.ensures.value, site.limit) at f))
    c.judgement.ensures.fault)

pub returns-in_err-fill_under-clause-fault : goal.returns-in_err-fill_under-clause-fault
returns-in_err-fill_under-clause-fault c =
    let p = err_from_is_err_and c.from_residual.result c.from_residual.ensures.1 in
    rw (p.1, p.2, ← c.new-site.ensures.statements, ← c.new-site.ensures.number)
    (on_rule_map c.in_err-fill_under.field-0.0 _ _
    (λ rule step h. λ index s proof. inl (h index s proof)) c.in_err-fill_under.ensures.fault)
