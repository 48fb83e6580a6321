-- What keeps the proof from the strict form breaks P15.
use Rattle.std.proofs.Common.{take, refl}
use Rattle.mm_step.specs.Plain.{token_texts}
use Rattle.mm_proof.proofs.ProofVerdicts.StrictForm.{never_strict}
use Rattle.mm_proof.proofs.form.judge_form.Goals as goal

pub returns-in-Some-clause-fault : goal.returns-in-Some-clause-fault
returns-in-Some-clause-fault c = λ index s proof. (
  refl,
  refl,
  never_strict (take index c.args.site.now.statements) s (token_texts c.args.tokens.now)
      c.in-Some.field-0 ((rw c.in-Some.is at c.in_ok-first_loose.ensures) index s proof),
)
