use Rattle.std.proofs.Common.{ℕ, List, Result, Err, sym, subst, ◌∙◌}
use Rattle.mm_frame.specs.declared.number.LabelId.{LabelId}
use Rattle.mm_frame.proofs.Rules.ObeyedRules.{allmeant_prefix}
use Rattle.mm_step.specs.declared.fault.ProofFault.{ProofFault}
use Rattle.mm_step.specs.Profiles.{limit_of}
use Rattle.mm_step.specs.Plain.{ids_in}
use Rattle.mm_proof.specs.Verified.{ProvesUsing}
use Rattle.mm_proof.proofs.ProofVerdicts.FirstFault.{on_rule_map, proof_excludes, accepts, refuses}
use Rattle.mm_proof.proofs.verdict.answer.Goals as goal

pub returns-in_ok-labels-in-Ok-clause-proved : goal.returns-in_ok-labels-in-Ok-clause-proved
returns-in_ok-labels-in-Ok-clause-proved g c index s moves proof numbered =
    subst (λ (ids : List LabelId). ProvesUsing (limit_of c.args.steps.now.profile) c.args.book.now.statements index s moves (ids_in ids)) (sym (c.in_ok-labels-in-Ok.ensures.items ∙ c.deref.ensures.value))
    (c.in-Ok.ensures.proved index s moves proof numbered)

pub returns-in_ok-labels-in-Ok-clause-refuses : goal.returns-in_ok-labels-in-Ok-clause-refuses
returns-in_ok-labels-in-Ok-clause-refuses g c index s moves proof numbered rule step fault =
    absurd ((proof_excludes _ _ s moves
    (allmeant_prefix _ index c.judgement_in_order.ensures.sound.0)).0
    (c.in-Ok.ensures.proved index s moves proof numbered).0 rule step fault)

pub returns-in-Err-clause-accepts : goal.returns-in-Err-clause-accepts
returns-in-Err-clause-accepts g c index s moves proof numbered p =
    let r : Result (List ℕ) ProofFault = Err c.in-Err.fault in
    accepts _ _ (proof_excludes _ _ s moves
    (allmeant_prefix _ index c.judgement_in_order.ensures.sound.0)) r (on_rule_map c.in-Err.fault _ _
    (λ rule step h. h index s moves proof numbered) c.in-Err.ensures.fault) p

pub returns-in-Err-clause-refuses : goal.returns-in-Err-clause-refuses
returns-in-Err-clause-refuses g c index s moves proof numbered rule step fault =
    refuses _ _ (proof_excludes _ _ s moves
    (allmeant_prefix _ index c.judgement_in_order.ensures.sound.0)) (Err c.in-Err.fault) tt
    (on_rule_map c.in-Err.fault _ _ (λ r n h. h index s moves proof numbered)
    c.in-Err.ensures.fault) rule step fault
