use Rattle.std.proofs.Common.{inl, take}
use Rattle.std.proofs.lemmas.Result.{err_from_is_err_and, on_ok_weaker}
use Rattle.mm_proof.specs.Proof.{IsMoveFault}
use Rattle.mm_proof.proofs.ProofVerdicts.FirstFault.{on_rule_map, rules_map}
use Rattle.mm_proof.proofs.ProofNumbers.NumberedLabels.{tokens_pass, tokens_fail}
use Rattle.mm_proof.proofs.prover.pass_tokens.Goals as goal

pub pass-requires-clause-steps : goal.pass-requires-clause-steps
pass-requires-clause-steps c = rw (c.deref.ensures.value, c.deref-2.ensures.value) c.in_ok-fill_under.ensures.usable

pub returns-clause-allowed : goal.returns-clause-allowed
returns-clause-allowed c =
    let site = c.new-site.ensures in
    let said = c.in_ok-fill_under.ensures in
    rw (← site.statements, ← site.number) (on_ok_weaker c.pass.result (λ p. λ index s proof. (
      said.form index s proof,
      tokens_pass _ _ _ _ _ said.steps (rw (c.deref.ensures.value, c.deref-2.ensures.value, site.limit) at p) index s proof,
    )) c.pass.ensures.passed)

pub returns-clause-fault : goal.returns-clause-fault
returns-clause-fault c =
    let site = c.new-site.ensures in
    let said = c.in_ok-fill_under.ensures in
    rw (← site.statements, ← site.number) (rules_map c.pass.result _ _ (λ rule step f.
    tokens_fail (λ index s. IsMoveFault _ (take index _)) c.args.profile _ _ _ _ rule step said.steps
    said.form (rw (c.deref.ensures.value, c.deref-2.ensures.value, site.limit) at f))
    c.pass.ensures.fault)

pub returns-in_err-fill_under-clause-fault : goal.returns-in_err-fill_under-clause-fault
returns-in_err-fill_under-clause-fault c =
    let p = err_from_is_err_and c.from_residual.result c.from_residual.ensures.1 in
    rw (p.1, p.2, ← c.new-site.ensures.statements, ← c.new-site.ensures.number)
    (on_rule_map c.in_err-fill_under.field-0.0 _ _
    (λ rule step h. λ index s proof. inl (h index s proof)) c.in_err-fill_under.ensures.fault)
