use Rattle.std.proofs.Common.{take, length, arith}
use Rattle.std.proofs.lemmas.List.{take_all}
use Rattle.mm_proof.proofs.ProofNumbers.MoreLabels.{one_more}
use Rattle.mm_forms.proofs.PackedProofs.PackingLoops.{repeated_make, repeated_repeat}
use Rattle.mm_forms.proofs.PackedProofs.PackingLoops.{few_make, few_repeat}
use Rattle.mm_forms.proofs.packing.repeated_trees.Goals as goal
use Rattle.mm_forms.proofs.packing.repeated_trees.Goals.{in-Make, in-Repeat+in_ok-add-in-Repeat}

pub loop-one-preserved : goal.loop-one-preserved
loop-one-preserved c = elim c.match-one.branch [
  | in-Make w ↦
      let prefix = one_more c.args.steps.now _ _ _ c.loop-one-test.true w.in-Make.is in
      rw (w.trees-is, prefix) (record {
        are = repeated_make _ _ _ c.loop-one.invariant.are;
        few = few_make (take c.loop-one.one-index c.args.steps.now) w.in-Make.field-0
            (length c.loop-one.trees) c.loop-one.one-index c.loop-one.invariant.few;
      })
  | in-Repeat+in_ok-add-in-Repeat w ↦
      let prefix = one_more c.args.steps.now _ _ _ c.loop-one-test.true w.in-Repeat.is in
      rw (w.trees-is, prefix) (record {
        are = repeated_repeat _ _ _ w.in-Repeat.tree w.in_ok-add-in-Repeat.ensures
            c.loop-one.invariant.are;
        few = few_repeat (take c.loop-one.one-index c.args.steps.now) w.in-Repeat.tree
            c.loop-one.trees w.add.new.self c.loop-one.one-index w.in_ok-add-in-Repeat.ensures
            c.loop-one.invariant.few;
      })
]

pub returns-clause-those : goal.returns-clause-those
returns-clause-those c =
    rw (take_all _ c.args.steps.now c.loop-one-test.false) at c.loop-one.invariant.are

pub returns-clause-few : goal.returns-clause-few
returns-clause-few c =
    let few = rw (take_all _ c.args.steps.now c.loop-one-test.false) at c.loop-one.invariant.few in
    let most = c.loop-one.auto.one-index-end in omega (arith, few, most)
