use Rattle.std.proofs.Common.{inr}
use Rattle.mm_step.proofs.ByNumbers.VariablesOfLists.{not_true, symbol_pushed}
use Rattle.mm_distinct.proofs.asked.add_shared.Goals as goal

pub returns : goal.returns
returns c =
    let there = rw c.deref.ensures.value at c.has_symbol-else-not-has_symbol.ensures.1 in
    inr (inr (
      c.has_symbol.ensures.0 c.if-not-has_symbol.false,
      λ h. not_true _ c.if-has_symbol.false (there h),
      symbol_pushed _ _ _ c.in_ok-push.ensures.items,
    ))
