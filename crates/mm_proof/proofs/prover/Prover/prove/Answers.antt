-- What is answered of the tokens is exact, and said of the prover's book; and with an unknown step the
-- answer is that on the known prefix.
use Rattle.std.proofs.lemmas.Result.{IfOk-at_ok, IfErr-at_err, IfOk-weaker}
use Rattle.mm_frame.proofs.Rules.ObeyedRules.{allformed_prefix, allmeant_prefix}
use Rattle.std.proofs.Common.{◌≡◌, Ok, Err, sym, ap, ◌∙◌, Result, inl, inr, IfOk, IsOkUnless}
use Rattle.mm_step.specs.declared.fault.ProofFault.TheVariants.{Rule, Memory}
use Rattle.mm_proof.specs.declared.prover.Proved.{Proved}
use Rattle.mm_proof.specs.declared.prover.Proved.TheVariants.{Incomplete}
use Rattle.mm_step.specs.Plain.{ids_in}
use Rattle.mm_proof.proofs.ProofTokens.QuestionMarks.{proved_known, said_known}
use Rattle.mm_proof.proofs.ProofVerdicts.FirstFault.{on_rule_map, rules_map, accepts, refuses}
use Rattle.mm_proof.proofs.ProofVerdicts.ProfileVerdicts.{proved_excludes, allowed_excludes}
use Rattle.mm_proof.proofs.prover.Prover.prove.Goals as goal
use Rattle.mm_step.specs.declared.fault.ProofFault.{ProofFault}
use Rattle.mm_proof.specs.Answer.{IsUnlessMemory}

-- an answer that is this one, if one is given
is_told : (r : Result Proved ProofFault) (told : Proved) (P : Type 0) → IfOk r (λ p. (p ≡ told) × P)
    → IsOkUnless r Memory → IsUnlessMemory r (Ok told)
is_told (Ok p) told P h given = inl (ap Ok h.0)
is_told (Err e) told P h given = inr (ap Err given)

-- ---- a proof that is proved

pub returns-in-Ok-clause-complete : goal.returns-in-Ok-clause-complete
returns-in-Ok-clause-complete c unknown is =
    let number = rw (← c.self.view_is) at c.requires in
    proved_known _ _ _ _ _ c.prove_tokens.ensures.sound.1 number c.in-Ok.ensures.proved unknown

pub returns-in-Ok-clause-proved : goal.returns-in-Ok-clause-proved
returns-in-Ok-clause-proved c is = rw (← c.self.view_is) c.in-Ok.ensures.proved

pub returns-in-Ok-clause-form : goal.returns-in-Ok-clause-form
returns-in-Ok-clause-form c is = rw (← c.self.view_is) c.in-Ok.ensures.form

pub returns-in-Ok-clause-refuses : goal.returns-in-Ok-clause-refuses
returns-in-Ok-clause-refuses c known = rw (← c.self.view_is) (
    λ index s proof rule step fault. absurd ((proved_excludes c.args.profile _ s _
    (allmeant_prefix _ index c.prove_tokens.ensures.sound.0)).0
    (c.in-Ok.ensures.form index s proof, (c.in-Ok.ensures.proved index s proof).proof)
    rule step fault))

pub returns-in-Ok-clause-allows_prefix : goal.returns-in-Ok-clause-allows_prefix
returns-in-Ok-clause-allows_prefix c unknown index s proof allowed =
    let number = rw (← c.self.view_is) at c.requires in absurd
    (proved_known _ _ _ _ _ c.prove_tokens.ensures.sound.1 number c.in-Ok.ensures.proved unknown)

pub returns-in-Ok-clause-refuses_prefix : goal.returns-in-Ok-clause-refuses_prefix
returns-in-Ok-clause-refuses_prefix c unknown index s proof rule step fault =
    let number = rw (← c.self.view_is) at c.requires in absurd
    (proved_known _ _ _ _ _ c.prove_tokens.ensures.sound.1 number c.in-Ok.ensures.proved unknown)

-- ---- one with an unknown step

pub returns-then-is_incomplete-clause-incomplete : goal.returns-then-is_incomplete-clause-incomplete
returns-then-is_incomplete-clause-incomplete c is = rw (← c.self.view_is) (
  sym c.is_incomplete.ensures ∙ c.if-is_incomplete.true,
  (IfOk-at_ok _ is c.allow.ensures.allowed).1,
)

pub returns-then-is_incomplete-clause-accepts : goal.returns-then-is_incomplete-clause-accepts
returns-then-is_incomplete-clause-accepts c = rw (← c.self.view_is) (λ index s proof p. absurd (
    said_known _ s _ _ (allformed_prefix _ index c.prove_tokens.ensures.sound.1) p.1.whole p.1.said
    (sym c.is_incomplete.ensures ∙ c.if-is_incomplete.true)))

pub returns-then-is_incomplete-clause-prefix_fault : goal.returns-then-is_incomplete-clause-prefix_fault
returns-then-is_incomplete-clause-prefix_fault c unknown rule step is =
    rw (← c.self.view_is) (IfErr-at_err _ is c.allow.ensures.fault)

pub returns-then-is_incomplete-clause-allows_prefix : goal.returns-then-is_incomplete-clause-allows_prefix
returns-then-is_incomplete-clause-allows_prefix c unknown = rw (← c.self.view_is) (
    λ index s proof allowed. is_told c.allow.result Incomplete _ c.allow.ensures.allowed
    (accepts _ _ (allowed_excludes c.args.profile _ s _
    (allmeant_prefix _ index c.prove_tokens.ensures.sound.0)) c.allow.result
    (rules_map c.allow.result _ _ (λ rule step h. h index s proof) c.allow.ensures.fault) allowed))

pub returns-then-is_incomplete-clause-refuses_prefix : goal.returns-then-is_incomplete-clause-refuses_prefix
returns-then-is_incomplete-clause-refuses_prefix c unknown = rw (← c.self.view_is) (
    λ index s proof. refuses _ _ (allowed_excludes c.args.profile _ s _
    (allmeant_prefix _ index c.prove_tokens.ensures.sound.0)) c.allow.result
    (IfOk-weaker c.allow.result _ _ (λ x h. h.1 index s proof) c.allow.ensures.allowed)
    (rules_map c.allow.result _ _ (λ rule step h. h index s proof) c.allow.ensures.fault))

-- ---- one that has a fault

pub returns-else-is_incomplete-clause-fault : goal.returns-else-is_incomplete-clause-fault
returns-else-is_incomplete-clause-fault c known rule step is =
    let same : c.in-Err.fault ≡ Rule rule step = cc in
    rw (← c.self.view_is) (rw same at c.in-Err.ensures.fault)

pub returns-else-is_incomplete-clause-accepts : goal.returns-else-is_incomplete-clause-accepts
returns-else-is_incomplete-clause-accepts c = rw (← c.self.view_is) (
    λ index s proof. accepts _ _ (proved_excludes c.args.profile _ s _
    (allmeant_prefix _ index c.prove_tokens.ensures.sound.0)) {X = Proved} (Err c.in-Err.fault)
    (on_rule_map c.in-Err.fault _ _ (λ rule step h. h index s proof) c.in-Err.ensures.fault))

pub returns-else-is_incomplete-clause-refuses : goal.returns-else-is_incomplete-clause-refuses
returns-else-is_incomplete-clause-refuses c known = rw (← c.self.view_is) (
    λ index s proof. refuses _ _ (proved_excludes c.args.profile _ s _
    (allmeant_prefix _ index c.prove_tokens.ensures.sound.0)) {X = Proved} (Err c.in-Err.fault) tt
    (on_rule_map c.in-Err.fault _ _ (λ rule step h. h index s proof) c.in-Err.ensures.fault))

pub returns-then-is_incomplete-clause-unproved : goal.returns-then-is_incomplete-clause-unproved
returns-then-is_incomplete-clause-unproved c other =
    c.allow.ensures.used ∙ ap ids_in c.in-Err.ensures.unproved

pub returns-else-is_incomplete-clause-unproved : goal.returns-else-is_incomplete-clause-unproved
returns-else-is_incomplete-clause-unproved c other = ap ids_in c.in-Err.ensures.unproved
