use Rattle.std.proofs.Common.{[], take, refl, sym, ap, subst, ◌∙◌}
use Rattle.mm_step.specs.Plain.{label_ids}
use Rattle.mm_forms.specs.Mirror.CodeSharing.{AreFirstNumbers}
use Rattle.mm_proof.proofs.ProofNumbers.MoreLabels.{one_more, label_ids-more}
use Rattle.mm_forms.proofs.PackedProofs.PackingLoops.{first_added}
use Rattle.mm_forms.proofs.packing.put_hypotheses.Goals as goal

pub loop-hypothesis-preserved : goal.loop-hypothesis-preserved
loop-hypothesis-preserved c =
    subst (λ n. AreFirstNumbers [] n c.add.new.self)
    (sym (ap label_ids (one_more c.args.hypotheses.now c.loop-hypothesis.hypothesis-index _ _ c.loop-hypothesis-test.true refl) ∙ label_ids-more (take c.loop-hypothesis.hypothesis-index c.args.hypotheses.now) _))
    (first_added _ _ _ _ _ c.loop-hypothesis.invariant c.in_ok-add.ensures)
