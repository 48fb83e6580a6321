use Rattle.std.proofs.Common.{◌≡◌, [], Result, Ok, Err, IfOk, OnOk}
use Rattle.std.proofs.lemmas.Result.{on_ok_weaker}
use Rattle.mm_step.specs.declared.fault.ProofFault.{ProofFault}
use Rattle.mm_frame.proofs.Rules.ObeyedRules.{allmeant_prefix}
use Rattle.mm_proof.proofs.ProofVerdicts.FirstFault.{rules_map, pass_excludes, accepts, refuses}
use Rattle.mm_proof.proofs.verdict.verify.Goals as goal

ok_both : {X : Type 0} (r : Result X ProofFault) (P : X → Type 0) (Q : Type 0) → IfOk r P
    → OnOk r Q → IfOk r (λ x. P x × Q)
ok_both (Ok x) P Q h k = (h, k)
ok_both (Err e) P Q h k = tt

pub returns-then-is_prefix-clause-passed : goal.returns-then-is_prefix-clause-passed
returns-then-is_prefix-clause-passed g c is =
    ok_both c.answer_prefix.result (λ used. used ≡ []) _ c.answer_prefix.ensures.empty
    c.answer_prefix.ensures.passed

pub returns-then-is_prefix-clause-accepts_prefix : goal.returns-then-is_prefix-clause-accepts_prefix
returns-then-is_prefix-clause-accepts_prefix g c is index s moves proof numbered p =
    accepts _ _ (pass_excludes _ _ moves (allmeant_prefix _ index c.answer_prefix.ensures.sound.0))
    c.answer_prefix.result (rules_map c.answer_prefix.result _ _
    (λ rule step h. h index s moves proof numbered) c.answer_prefix.ensures.fault) p

pub returns-then-is_prefix-clause-refuses_prefix : goal.returns-then-is_prefix-clause-refuses_prefix
returns-then-is_prefix-clause-refuses_prefix g c is index s moves proof numbered rule step fault =
    refuses _ _ (pass_excludes _ _ moves (allmeant_prefix _ index c.answer_prefix.ensures.sound.0))
    c.answer_prefix.result (on_ok_weaker c.answer_prefix.result
    (λ passed. passed index s moves proof numbered) c.answer_prefix.ensures.passed)
    (rules_map c.answer_prefix.result _ _ (λ r n h. h index s moves proof numbered)
    c.answer_prefix.ensures.fault) rule step fault
