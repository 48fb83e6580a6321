use Rattle.mm_step.specs.Mirror.CodeAsked.{number_pairs}
use Rattle.mm_distinct.proofs.AskedByNumbers.ListedVariables.{missing_of}
use Rattle.mm_distinct.proofs.asked.missing_numbers.Goals as goal

pub put_in_order-requires : goal.put_in_order-requires
put_in_order-requires c p has = (c.in_ok-missing.ensures.only p has).0.differ

pub returns : goal.returns
returns c = (
  number_pairs c.in_ok-missing.missing.items,
  missing_of _ _ _ _ _ _ _ c.in_ok-first.ensures c.in_ok-second.ensures
      (rw (c.deref.ensures.value, c.deref-2.ensures.value) at c.in_ok-missing.ensures),
  c.put_in_order.ensures,
)
