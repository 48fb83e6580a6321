use Rattle.std.proofs.Common.{Err, ap}
use Rattle.mm_proof.proofs.ProofTokens.SaidMoves.{compressed_once}
use Rattle.std.proofs.lemmas.Result.{err_from_is_err_and}
use Rattle.mm_proof.proofs.ProofVerdicts.FirstFault.{on_rule_map}
use Rattle.mm_proof.proofs.ProofTokens.ProofLabels.{labels_fault}
use Rattle.mm_proof.proofs.ProofTokens.ProofCodes.{reading_compressed, codes_say, compressed_labels}
use Rattle.mm_proof.proofs.ProofTokens.ProofCodes.{letters_spelled, letter_broken}
use Rattle.mm_code.specs.declared.code.CodeRule.TheVariants as code
use Rattle.mm_proof.proofs.parse.fill_compressed.Goals as goal

pub returns-clause-spelled : goal.returns-clause-spelled
returns-clause-spelled c = letters_spelled _ _ c.in-Ok.ensures.read

pub returns-in_err-fill_numbers-clause-fault : goal.returns-in_err-fill_numbers-clause-fault
returns-in_err-fill_numbers-clause-fault c =
    let p = err_from_is_err_and c.from_residual.result c.from_residual.ensures.1 in
    rw (p.1, p.2, ← c.site.view_is) (on_rule_map c.in_err-fill_numbers.field-0.0 _ _ (λ rule step h. (h.0, labels_fault _ _ _ _ rule (compressed_labels _ _ _ c.in-Some.ensures) h.1)) c.in_err-fill_numbers.ensures.fault)

pub returns-in-Err-clause-fault : goal.returns-in-Err-clause-fault
returns-in-Err-clause-fault c =
    rw (c.letter_fault.ensures, ← c.site.view_is) (letter_broken _ _ _ _ _ _ c.in-Err.fault
    c.site.invariant.1.sound.0 c.in-Some.ensures c.in_ok-fill_numbers.ensures.ok
    (λ rule is. c.in-Err.ensures.rule rule (ap Err is)))

pub returns-clause-ok : goal.returns-clause-ok
returns-clause-ok c =
    let own = c.site.invariant.1 in
    rw (← c.site.view_is, c.in_ok-fill_entries.ensures, c.deref.ensures.value) (
    reading_compressed _ _ own.s _ _ _ _ _ _ _ own.sound.0 own.sound.1 own.proof.numbered.there
    c.in-Some.ensures c.in_ok-fill_numbers.ensures.ok
    (rw c.site.invariant.0 at c.hypotheses.ensures.ids)
    c.in-Ok.ensures.read (c.in-Ok.ensures.unbroken code.P4) (c.in-Ok.ensures.unbroken code.P5)
    (codes_say _ _ (letters_spelled _ _ c.in-Ok.ensures.read)))

pub returns-clause-listed : goal.returns-clause-listed
returns-clause-listed c labels letters parts =
    rw (← c.site.view_is, (compressed_once _ labels _ letters _ parts c.in-Some.ensures).0)
    c.in_ok-fill_numbers.ensures.ok
