use Rattle.std.proofs.Common.{length, ap, sym, subst, arith}
use Rattle.std.proofs.lemmas.List.{length-map}
use Rattle.std.proofs.lemmas.Result.{IfOk-weaker}
use Rattle.mm_step.specs.Plain.{ids_in}
use Rattle.mm_step.specs.Steps.{AreNumberedMoves}
use Rattle.mm_proof.specs.Mirror.CodeSteps.{code_move}
use Rattle.mm_proof.proofs.ProofVerdicts.JudgedMoves.{held_moves, seen_moves, seen_limit}
use Rattle.mm_listing.proofs.uses.uses_before.Goals as goal

pub links_of_first_codes-requires-clause-within : goal.links_of_first_codes-requires-clause-within
links_of_first_codes-requires-clause-within c =
    let held = held_moves _ _ _ _ _ c.deref.ensures.value c.deref-2.ensures.value
    (seen_moves c.steps.view_is) in
    omega (
      arith,
      c.requires.within,
      ap length held,
      length-map c.deref-2.result.now (code_move (ids_in c.deref.result.now)),
    )

pub links_of_first_codes-requires-clause-pass : goal.links_of_first_codes-requires-clause-pass
links_of_first_codes-requires-clause-pass c = λ index s moves proof numbered.
    let held = held_moves _ _ _ _ _ c.deref.ensures.value c.deref-2.ensures.value
    (seen_moves c.steps.view_is) in
    rw (← seen_limit c.steps.view_is) at
    (c.requires.pass index s moves proof
    (subst (λ l. AreNumberedMoves c.args.book.now.statements l moves) (sym held) numbered))

pub returns : goal.returns
returns c =
    let held = held_moves _ _ _ _ _ c.deref.ensures.value c.deref-2.ensures.value
    (seen_moves c.steps.view_is) in
    record {
      used = IfOk-weaker c.links_of_first_codes.result _ _
          (λ used h index s moves proof numbered. h index s moves proof
          (subst (λ l. AreNumberedMoves c.args.book.now.statements l moves) held numbered))
          c.links_of_first_codes.ensures;
    }
