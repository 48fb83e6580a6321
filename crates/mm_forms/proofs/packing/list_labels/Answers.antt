use Rattle.std.proofs.Common.{subst, append-nil}
use Rattle.std.proofs.lemmas.List.{map-append}
use Rattle.mm_proof.specs.Mirror.CodeSharing.{AddsNew}
use Rattle.mm_proof.proofs.ProofNumbers.MoreLabels.{one_more}
use Rattle.mm_forms.proofs.PackedProofs.PackingLoops.{labels_made-append, listing_old}
use Rattle.mm_forms.proofs.PackedProofs.PackingLoops.{listing_new}
use Rattle.mm_forms.proofs.packing.list_labels.Goals as goal
use Rattle.mm_forms.proofs.packing.list_labels.Goals.{in-Make+in_ok-add-in-Make+then-branch+in_ok-push-in-Make, in-Make+in_ok-add-in-Make+else-branch, in-Repeat}

pub loop-one-preserved : goal.loop-one-preserved
loop-one-preserved c = elim c.match-one.branch [
  | in-Make+in_ok-add-in-Make+then-branch+in_ok-push-in-Make w ↦
      let prefix = one_more c.args.steps.now _ _ _ c.loop-one-test.true w.in-Make.is in
      rw (w.labels-is, w.listed-is, w.in_ok-push-in-Make.ensures.items, prefix, labels_made-append, map-append)
      (listing_new c.args.labels.now c.loop-one.labels w.add.new.self _ _ w.in-Make.tree.label c.loop-one.invariant (subst (λ b. AddsNew c.loop-one.labels w.in-Make.tree.label b w.add.new.self) w.if-branch.true w.in_ok-add-in-Make.ensures))
  | in-Make+in_ok-add-in-Make+else-branch w ↦
      let prefix = one_more c.args.steps.now _ _ _ c.loop-one-test.true w.in-Make.is in
      rw (w.labels-is, w.listed-is, prefix, labels_made-append)
      (listing_old c.args.labels.now c.loop-one.labels w.add.new.self _ _ w.in-Make.tree.label c.loop-one.invariant (subst (λ b. AddsNew c.loop-one.labels w.in-Make.tree.label b w.add.new.self) w.if-branch.false w.in_ok-add-in-Make.ensures))
  | in-Repeat w ↦
      let prefix = one_more c.args.steps.now _ _ _ c.loop-one-test.true w.in-Repeat.is in
      rw (w.labels-is, w.listed-is, prefix, labels_made-append, append-nil) c.loop-one.invariant
]
