use Rattle.std.proofs.Common.{arith, option_to_list, sym, append-nil, []}
use Rattle.mm_frame.proofs.Blocks.ScopeStack.{dropped_more, forgotten_last, popped_size}
use Rattle.mm_base.proofs.Lists.{get_kept}
use Rattle.mm_frame.proofs.take_statement.forget_inactive.Goals as goal

pub loop-init : goal.loop-init
loop-init c = record {
  sized = omega arith;
  within = c.requires.within;
  dropped = λ st have small. record {
    gone = [];
    parted = sym (append-nil _);
    inactive = λ i p at. absurd cc;
  };
}

pub returns-then-is_last_active : goal.returns-then-is_last_active
returns-then-is_last_active c st have small =
    forgotten_last st _ _ (c.loop.invariant.dropped st have small) (λ k p len there.
    (c.is_last_active.ensures st k p have small (rw c.deref.ensures.value len)
    (rw c.deref.ensures.value there)).0 c.if-is_last_active.true)

pub loop-preserved : goal.loop-preserved
loop-preserved c =
    let shorter = popped_size c.loop.indices.items c.pop.new.self.items c.pop.result
    c.pop.ensures.items (c.pop.ensures.variant.1 (let len = c.loop.invariant.sized in omega arith))
    in
    record {
      sized = omega arith;
      within = λ i p at. c.loop.invariant.within i p (rw c.pop.ensures.items
          (get_kept c.pop.new.self.items (option_to_list c.pop.result) i p at));
      dropped = λ st have small. dropped_more _ _ _ c.pop.new.self.items c.pop.result
          (c.loop.invariant.dropped st have small) c.pop.ensures.items (λ k p len there active.
          let now = (c.is_last_active.ensures st k p have small (rw c.deref.ensures.value len)
          (rw c.deref.ensures.value there)).1 active in
          absurd (cc (now, c.if-is_last_active.false)));
    }

pub returns : goal.returns
returns c st have small =
    forgotten_last st _ _ (c.loop.invariant.dropped st have small)
    (λ k p len at. absurd (omega arith))
