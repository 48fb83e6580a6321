use Rattle.std.proofs.Common.{◌+◌, ◌++◌, ◌∷◌, [], inl, inr, refl, sym, ap, ◌∙◌, append_assoc}
use Rattle.std.proofs.lemmas.Bool.{false≢true}
use Rattle.mm_code.specs.declared.code.Code.TheVariants.{Number, Tag}
use Rattle.mm_forms.proofs.packing.encode.Goals as goal

pub returns-then-has-clause-said : goal.returns-then-has-clause-said
returns-then-has-clause-said c = (
  Number (c.index-index.result + 1) ∷ Tag ∷ [],
  c.in_ok-push-in-Make-2.ensures.items ∙ ap (λ l. l ++ Tag ∷ []) c.in_ok-push-in-Make.ensures.items ∙ append_assoc c.args.codes.now.items (Number (c.index-index.result + 1) ∷ []) (Tag ∷ []),
  rw c.in-Make.is (
    c.index-index.result,
    c.index-index.ensures.there,
    inl (c.has.ensures.0 c.if-has.true, refl, c.in_ok-add-in-Make.ensures),
  ),
)

pub returns-else-has-clause-said : goal.returns-else-has-clause-said
returns-else-has-clause-said c = (
  Number (c.index-index.result + 1) ∷ [],
  c.in_ok-push-in-Make.ensures.items,
  rw c.in-Make.is (
    c.index-index.result,
    c.index-index.ensures.there,
    inr (λ h. false≢true (sym c.if-has.false ∙ c.has.ensures.1 h), refl, refl),
  ),
)
