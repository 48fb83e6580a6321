use Rattle.std.proofs.Common.{[], ◌∷◌, inr, refl}
use Rattle.mm_forms.specs.declared.sharing.SharedStep.TheVariants.{Repeat}
use Rattle.mm_forms.proofs.chosen.put_chosen.Goals as goal

pub returns-in_default-only_leaf : goal.returns-in_default-only_leaf
returns-in_default-only_leaf c = (
  Repeat c.in-Repeat.tree ∷ [],
  c.in_ok-push-2.ensures.items,
  rw c.in-Repeat.is (inr (c.only_leaf.ensures.none c.in_default-only_leaf.is, refl)),
)
