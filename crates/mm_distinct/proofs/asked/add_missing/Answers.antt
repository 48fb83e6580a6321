use Rattle.mm_step.proofs.ByNumbers.VariablesOfLists.{not_true}
use Rattle.mm_distinct.proofs.AskedByNumbers.ListedVariables.{pair_pushed, adds_none, adds_pair}
use Rattle.mm_distinct.proofs.asked.add_missing.Goals as goal

pub returns-then-not-is_missing : goal.returns-then-not-is_missing
returns-then-not-is_missing c =
    adds_none _ _ _ _ _ (λ p. not_true _ c.if-not-is_missing.true (c.is_missing.ensures.1 p))

pub returns : goal.returns
returns c =
    adds_pair _ _ _ _ _ _ _ (c.is_missing.ensures.0 c.if-not-is_missing.false)
    c.in_ok-make_room_for_pair.ensures.same (pair_pushed _ _ _ c.in_ok-push.ensures.items)
