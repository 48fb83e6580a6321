use Rattle.std.proofs.Common.{slice_get, sym, ap, subst}
use Rattle.std.proofs.lemmas.Result.{err_from_is_err_and}
use Rattle.mm_proof.specs.Mirror.CodeSteps.{IsReading}
use Rattle.mm_proof.proofs.ProofVerdicts.FirstFault.{on_rule_map}
use Rattle.mm_proof.proofs.ProofTokens.ProofLabels.{labels_fault, normal_labels, reading_normal}
use Rattle.mm_proof.proofs.parse.fill_normal.Goals as goal

pub returns-clause-ok : goal.returns-clause-ok
returns-clause-ok c =
    let own = c.site.invariant.1 in
    let reading = reading_normal _ _ own.s _ _ c.site.invariant.1.sound.0 own.proof.numbered.there c.requires.normal c.in_ok-fill_numbers.ensures.ok in
    rw (← c.site.view_is) (subst (IsReading _ _ _) (sym (rw c.deref.ensures.value at c.in_ok-fill_distinct.ensures.ok)) reading)

pub returns-in_err-fill_distinct-clause-fault : goal.returns-in_err-fill_distinct-clause-fault
returns-in_err-fill_distinct-clause-fault c =
    let p = err_from_is_err_and c.from_residual-in_err-fill_distinct.result c.from_residual-in_err-fill_distinct.ensures.1 in
    rw (p.1, p.2) (rw c.in_err-fill_distinct.ensures.fault tt)

pub returns-in_err-fill_numbers-clause-fault : goal.returns-in_err-fill_numbers-clause-fault
returns-in_err-fill_numbers-clause-fault c =
    let p = err_from_is_err_and c.from_residual.result c.from_residual.ensures.1 in
    rw (p.1, p.2, ← c.site.view_is) (on_rule_map c.in_err-fill_numbers.field-0.0 _ _ (λ rule step h. (h.0, labels_fault _ _ _ _ rule (normal_labels _ c.requires.normal) h.1)) c.in_err-fill_numbers.ensures.fault)

pub returns-clause-listed : goal.returns-clause-listed
returns-clause-listed c labels letters parts = absurd (c.requires.normal (ap (λ l. slice_get l 0) parts.whole))
