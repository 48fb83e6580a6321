use Rattle.mm_step.specs.Tree.{tree, none}
use Rattle.mm_proof.proofs.Members.{get_in}
use Rattle.mm_forms.proofs.PackedProofs.SubtreeNumbers.{kept_is, subtrees_repeat}
use Rattle.mm_forms.proofs.PackedProofs.PackingLoops.{steps_repeat, fewer_more}
use Rattle.mm_forms.proofs.sharing.SharedStepsBuilder.repeat.Goals as goal

pub returns-clause-made : goal.returns-clause-made
returns-clause-made c first st stack shelf row kept steps label below is h =
    let table = c.args.self.now.table in
    record {
      subtrees = subtrees_repeat st first.table table stack shelf c.args.item row kept label below is h.subtrees;
      few = rw c.in_ok-push.ensures.items (fewer_more steps c.again.result c.args.self.now.steps.items h.few);
      shared = λ all. rw c.in_ok-push.ensures.items
          (steps_repeat st table c.args.item c.again.result _ _ row kept label below (kept_is st first.table table stack shelf c.args.item row kept label below is h.subtrees)
          (get_in kept is.tag (tree label below none) is.tree_there) c.again.ensures (h.shared all));
    }
