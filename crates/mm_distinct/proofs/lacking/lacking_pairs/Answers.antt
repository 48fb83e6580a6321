use Rattle.std.proofs.Common.{subst}
use Rattle.std.proofs.lemmas.Result.{IfOk-weaker}
use Rattle.mm_step.specs.Steps.{AreNumberedMoves}
use Rattle.mm_proof.proofs.ProofVerdicts.JudgedMoves.{held_moves, seen_moves, seen_limit}
use Rattle.mm_distinct.proofs.lacking.lacking_pairs.Goals as goal

pub returns : goal.returns
returns c =
    let site = c.new-site.ensures in
    IfOk-weaker c.lacking_in_frame.result _ _ (λ lacking h index s moves proof numbered.
    h index s moves proof (subst (λ l. AreNumberedMoves c.args.book.now.statements l moves)
    (held_moves _ _ _ _ _ c.deref-2.ensures.value c.deref-4.ensures.value
    (seen_moves c.steps.view_is)) numbered))
    (rw (site.statements, site.number, site.limit, seen_limit c.steps.view_is) at
    c.lacking_in_frame.ensures)
