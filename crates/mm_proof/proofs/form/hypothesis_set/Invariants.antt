use Rattle.std.proofs.Common.{ℕ, take, Contains, ◌↔◌}
use Rattle.mm_step.specs.Plain.{label_ids}
use Rattle.mm_proof.proofs.form.hypothesis_set.Given as goal

abbrev pub invariant-loop-hypothesis : goal.invariant-loop-hypothesis
invariant-loop-hypothesis l = (id : ℕ) → Contains l.seen id ↔ Contains (label_ids (take l.hypothesis-index l.hypotheses)) id
