use Rattle.std.proofs.Common.{sym, ap, ◌∙◌}
use Rattle.std.proofs.lemmas.Result.{err_from_is_err_and}
use Rattle.mm_text.specs.declared.comments.Position.{Position}
use Rattle.mm_base.specs.Token.{plain_token}
use Rattle.mm_text.specs.Items.{Naming, Closing, pieces}
use Rattle.mm_text.specs.Mirror.Position.{shown_at}
use Rattle.mm_text.proofs.Inclusions.FilePieces.{naming-dollar, naming-name, closing-other}
use Rattle.mm_text.proofs.Inclusions.FilePieces.{closing-close}
use Rattle.mm_text.proofs.nest.take_name.Goals as goal

pub returns-then-has_dollar-clause-takes : goal.returns-then-has_dollar-clause-takes
returns-then-has_dollar-clause-takes c = (
  ap (pieces _ (Naming _)) c.in_ok-name.ensures.takes.0
      ∙ naming-dollar _ _ _ _ (sym c.in_ok-name.ensures.takes.1.dollar ∙ c.if-has_dollar.true),
  c.in_ok-name.ensures.takes.1.at,
)

pub returns-in_err-close-clause-takes : goal.returns-in_err-close-clause-takes
returns-in_err-close-clause-takes c =
    let name = plain_token c.in_ok-name.name in
    let e = err_from_is_err_and c.from_residual-in_err-close.result c.from_residual-in_err-close.ensures.1 in
    rw (e.1, e.2) (
      ap (pieces _ (Naming _)) c.in_ok-name.ensures.takes.0
          ∙ naming-name _ _ _ _ (sym c.in_ok-name.ensures.takes.1.dollar ∙ c.if-has_dollar.false)
          ∙ ap (λ n. pieces n (Closing (plain_token c.args.begin) name) (shown_at c.take_inner.new.position))
          (sym (ap (λ (q : Position). q.file) c.in_ok-name.ensures.same))
          ∙ c.in_err-close.ensures.takes.1 name,
      c.in_err-close.ensures.takes.2,
    )

pub returns-then-not-is_inclusion_end-clause-takes : goal.returns-then-not-is_inclusion_end-clause-takes
returns-then-not-is_inclusion_end-clause-takes c = (
  ap (pieces _ (Naming _)) c.in_ok-name.ensures.takes.0
      ∙ naming-name _ _ _ _ (sym c.in_ok-name.ensures.takes.1.dollar ∙ c.if-has_dollar.false)
      ∙ ap (pieces _ (Closing _ _)) c.in_ok-close.ensures.takes.0
      ∙ closing-other _ _ _ _ _ (sym c.is_inclusion_end.ensures ∙ c.if-not-is_inclusion_end.true),
  c.in_ok-close.ensures.takes.1.at,
)

pub returns-clause-takes : goal.returns-clause-takes
returns-clause-takes c = (
  ap (pieces _ (Naming _)) c.in_ok-name.ensures.takes.0
      ∙ naming-name _ _ _ _ (sym c.in_ok-name.ensures.takes.1.dollar ∙ c.if-has_dollar.false)
      ∙ ap (pieces _ (Closing _ _)) c.in_ok-close.ensures.takes.0
      ∙ closing-close _ _ _ _ _ (sym c.is_inclusion_end.ensures ∙ c.if-not-is_inclusion_end.false),
  c.in_ok-name.ensures.takes.1.at,
)
