-- The token stands for the symbol, or both are variables of one type.
use Rattle.std.proofs.Common.{inr, refl, sym, ◌∙◌}
use Rattle.std.proofs.lemmas.Bool.{false≢true}
use Rattle.mm_find.proofs.Shapes.{stands_for_one}
use Rattle.mm_find.proofs.Variants.{first_choice}
use Rattle.mm_find.proofs.variant.may_become.Goals as goal

pub returns-then-stands_for : goal.returns-then-stands_for
returns-then-stands_for c = (
  (λ t. inr ((stands_for_one c.args.token.now c.args.symbol.now).0
      (sym c.stands_for.ensures ∙ c.if-stands_for.true))),
  (λ h. refl),
)

pub returns : goal.returns
returns c =
    first_choice _ _ _ c.share_type.ensures
    (λ one. false≢true (sym c.if-stands_for.false ∙ c.stands_for.ensures
    ∙ (stands_for_one c.args.token.now c.args.symbol.now).1 one))
