use Rattle.std.proofs.Common.{subst}
use Rattle.std.proofs.lemmas.Result.{IfErr-at_err, IfOk-weaker}
use Rattle.mm_frame.proofs.Rules.ObeyedRules.{allmeant_prefix}
use Rattle.mm_step.specs.Steps.{AreNumberedMoves}
use Rattle.mm_proof.proofs.ProofVerdicts.JudgedMoves.{held_moves, seen_moves, seen_limit}
use Rattle.mm_proof.proofs.ProofVerdicts.FirstFault.{proof_excludes, accepts, refuses, rules_map}
use Rattle.mm_listing.proofs.uses.uses_of.Goals as goal

pub returns-clause-used : goal.returns-clause-used
returns-clause-used c =
    IfOk-weaker c.links_of_proof.result _ _ (λ used h index s moves proof numbered.
    let l = h index s moves proof (subst (λ l. AreNumberedMoves c.args.book.now.statements l moves)
    (held_moves _ _ _ _ _ c.deref.ensures.value c.deref-2.ensures.value
    (seen_moves c.steps.view_is)) numbered) in
    l.1) (rw (seen_limit c.steps.view_is) at c.links_of_proof.ensures.linked)

pub returns-clause-fault : goal.returns-clause-fault
returns-clause-fault c rule step is index s moves proof numbered =
    IfErr-at_err _ is (rw (seen_limit c.steps.view_is) at c.links_of_proof.ensures.fault) index s
    moves proof (subst (λ l. AreNumberedMoves c.args.book.now.statements l moves) (held_moves _ _ _
    _ _ c.deref.ensures.value c.deref-2.ensures.value (seen_moves c.steps.view_is)) numbered)

pub returns-clause-accepts : goal.returns-clause-accepts
returns-clause-accepts c index s moves proof numbered p =
    let held = subst (λ l. AreNumberedMoves c.args.book.now.statements l moves)
    (held_moves _ _ _ _ _ c.deref.ensures.value c.deref-2.ensures.value
    (seen_moves c.steps.view_is)) numbered in
    accepts _ _ (proof_excludes _ _ s moves (allmeant_prefix _ index c.links_of_proof.ensures.sound.0))
    c.links_of_proof.result (rules_map c.links_of_proof.result _ _
    (λ rule step h. h index s moves proof held)
    (rw (seen_limit c.steps.view_is) at c.links_of_proof.ensures.fault)) p

pub returns-clause-refuses : goal.returns-clause-refuses
returns-clause-refuses c index s moves proof numbered rule step fault =
    let held = subst (λ l. AreNumberedMoves c.args.book.now.statements l moves)
    (held_moves _ _ _ _ _ c.deref.ensures.value c.deref-2.ensures.value
    (seen_moves c.steps.view_is)) numbered in
    refuses _ _ (proof_excludes _ _ s moves (allmeant_prefix _ index c.links_of_proof.ensures.sound.0))
    c.links_of_proof.result (IfOk-weaker c.links_of_proof.result _ _
    (λ x h. (h index s moves proof held).0)
    (rw (seen_limit c.steps.view_is) at c.links_of_proof.ensures.linked))
    (rules_map c.links_of_proof.result _ _ (λ r n h. h index s moves proof held)
    (rw (seen_limit c.steps.view_is) at c.links_of_proof.ensures.fault)) rule step fault
