use Rattle.std.proofs.Common.{ℕ, List, take, Contains, ◌↔◌, refl, ap, subst, ◌∙◌}
use Rattle.std.proofs.lemmas.List.{take_all}
use Rattle.mm_frame.specs.declared.hypothesis.Hypothesis.{Hypothesis}
use Rattle.mm_step.specs.Plain.{label_ids}
use Rattle.mm_proof.proofs.ProofNumbers.MoreLabels.{one_more, label_ids-more}
use Rattle.mm_proof.proofs.ProofVerdicts.StrictForm.{set_more}
use Rattle.mm_proof.proofs.form.hypothesis_set.Goals as goal

pub loop-hypothesis-preserved : goal.loop-hypothesis-preserved
loop-hypothesis-preserved c =
    set_more _ _ (label_ids (take c.loop-hypothesis.hypothesis-index c.args.hypotheses.now)) _ _ _ c.loop-hypothesis.invariant c.in_ok-add.ensures
    (ap label_ids (one_more c.args.hypotheses.now c.loop-hypothesis.hypothesis-index _ _ c.loop-hypothesis-test.true refl) ∙ label_ids-more (take c.loop-hypothesis.hypothesis-index c.args.hypotheses.now) _)

pub returns : goal.returns
returns c =
    subst (λ (l : List Hypothesis). (id : ℕ) → Contains c.loop-hypothesis.seen id ↔ Contains (label_ids l) id)
    (take_all c.loop-hypothesis.hypothesis-index c.args.hypotheses.now c.loop-hypothesis-test.false) c.loop-hypothesis.invariant
