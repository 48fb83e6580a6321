-- The last one is explained, and then those of proofs are told.
use Rattle.std.proofs.Common.{◌++◌, ap, ◌∙◌}
use Rattle.mm_explain.proofs.why.Reasons.told_with_last.Goals as goal

pub returns-clause-told : goal.returns-clause-told
returns-clause-told c = λ listed kept noted explained. record {
  explanation = c.in_ok-text.text.items;
  explains = c.in_ok-text.ensures;
  proofs = c.in_ok-proofs.proofs.items;
  told = c.in_ok-proofs.ensures listed kept noted explained;
  said = c.in_ok-extend_from_slice.ensures.items
      ∙ ap (λ t. c.in_ok-text.text.items ++ t) c.deref.ensures.value;
}
