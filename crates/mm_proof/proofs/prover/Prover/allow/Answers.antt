use Rattle.std.proofs.Common.{refl}
use Rattle.mm_proof.proofs.prover.Prover.allow.Goals as goal
use Rattle.mm_proof.proofs.prover.Prover.allow.Goals.{in-Ok, in-Err}

pub returns-clause-allowed : goal.returns-clause-allowed
returns-clause-allowed c = elim c.match-allow_tokens.branch [
  | in-Ok w ↦ rw (w.result-is, ← c.self.view_is) (refl, w.in-Ok.ensures.allowed)
  | in-Err w ↦ rw w.result-is tt
]

pub returns-clause-fault : goal.returns-clause-fault
returns-clause-fault c = elim c.match-allow_tokens.branch [
  | in-Ok w ↦ rw w.result-is tt
  | in-Err w ↦ rw (w.result-is, ← c.self.view_is) w.in-Err.ensures.fault
]
