use Rattle.mm_step.specs.Plain.{ids_in}
use Rattle.mm_proof.proofs.ProofVerdicts.StrictForm.{NewSoFar}
use Rattle.mm_proof.proofs.form.first_old.Given as goal

abbrev pub invariant-loop-index : goal.invariant-loop-index
invariant-loop-index l = NewSoFar l.fn.seen l.seen (ids_in l.listed) l.index
