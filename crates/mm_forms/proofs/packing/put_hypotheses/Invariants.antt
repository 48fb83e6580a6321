use Rattle.std.proofs.Common.{[], take}
use Rattle.mm_step.specs.Plain.{label_ids}
use Rattle.mm_forms.specs.Mirror.CodeSharing.{AreFirstNumbers}
use Rattle.mm_forms.proofs.packing.put_hypotheses.Given as goal

abbrev pub invariant-loop-hypothesis : goal.invariant-loop-hypothesis
invariant-loop-hypothesis l = AreFirstNumbers [] (label_ids (take l.hypothesis-index l.hypotheses)) l.labels
