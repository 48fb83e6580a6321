use Rattle.std.proofs.Common.{length}
use Rattle.mm_step.specs.Tree.{beside}
use Rattle.mm_forms.proofs.PackedProofs.SubtreeNumbers.{last_made}
use Rattle.mm_forms.proofs.PackedProofs.PackingLoops.{steps_later, steps_make, fewer_steps}
use Rattle.mm_forms.proofs.sharing.SharedStepsBuilder.make.Goals as goal

pub returns-clause-made : goal.returns-clause-made
returns-clause-made c first st stack shelf rest below kept steps label named many h =
    let old = c.args.self.now.table in
    let s = h.subtrees in
    let new = c.in_ok-tree.ensures.made first.table st stack shelf rest below kept steps label named many s in
    let keep = (c.in_ok-tree.ensures.made old st stack shelf rest below kept steps label named many
    (record { keep = λ index row there. there; once = s.once; stands = s.stands; shelved = s.shelved })).keep in
    record {
      subtrees = new;
      few = fewer_steps c.in_ok-tree.tree (length c.args.below.now) steps _ _ _ _ c.in_ok-share.ensures h.few;
      shared = λ all.
          steps_make st _ c.in_ok-tree.tree (length c.args.below.now) _ _ _ _ rest below kept label all new.once (last_made st first.table _ stack shelf c.in_ok-tree.tree rest below kept label new) many c.in_ok-share.ensures
          (steps_later st old _ _ _ (beside rest below) kept keep (h.shared all));
    }
