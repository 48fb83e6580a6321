use Rattle.std.proofs.Common.{[], ap, ◌∙◌}
use Rattle.std.proofs.lemmas.Result.{err_from_is_err_and}
use Rattle.mm_text.specs.Items.{Naming, Closing, pieces}
use Rattle.mm_text.proofs.Inclusions.FilePieces.{pieces-broken, naming-end, closing-end}
use Rattle.mm_text.proofs.nest.take_inner.Goals as goal

pub returns-in_err-found-clause-takes : goal.returns-in_err-found-clause-takes
returns-in_err-found-clause-takes c =
    let e = err_from_is_err_and c.from_residual.result c.from_residual.ensures.1 in
    rw (e.1, e.2) (
      ap (pieces _ (Naming _)) c.in_err-found.ensures.takes.0 ∙ pieces-broken _ (Naming _) _ _ [],
      λ name. ap (pieces _ (Closing _ name)) c.in_err-found.ensures.takes.0
          ∙ pieces-broken _ (Closing _ name) _ _ [],
      c.in_err-found.ensures.takes.1,
    )

pub returns-in-None-clause-takes : goal.returns-in-None-clause-takes
returns-in-None-clause-takes c =
    let h = rw c.in-None.is at c.in_ok-found.ensures.takes in (
      ap (pieces _ (Naming _)) h ∙ naming-end _ _,
      λ name. ap (pieces _ (Closing _ name)) h ∙ closing-end _ _ name,
      c.requires.begin,
    )
