use Rattle.std.proofs.Common.{ap, subst}
use Rattle.std.proofs.lemmas.Result.{IfOk-weaker}
use Rattle.mm_proof.specs.ReadSteps.{ReadSteps}
use Rattle.mm_step.specs.Steps.{AreNumberedMoves}
use Rattle.mm_proof.proofs.ProofVerdicts.JudgedMoves.{held_moves, seen_moves, seen_limit}
use Rattle.mm_listing.proofs.halting.halt_of.Goals as goal

pub returns : goal.returns
returns c =
    let seen = c.steps.view_is in
    let prefix = ap (λ (v : ReadSteps). v.prefix) seen in
    let held = held_moves _ _ _ _ _ c.deref.ensures.value c.deref-2.ensures.value
    (seen_moves seen) in
    record {
      halted = IfOk-weaker c.halt_of_codes.result _ _
          (λ halt h index s moves proof numbered. h index s moves proof
          (subst (λ l. AreNumberedMoves c.args.book.now.statements l moves) held numbered))
          (rw (seen_limit seen, prefix) at c.halt_of_codes.ensures);
    }
