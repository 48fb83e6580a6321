-- The hypotheses are seen first.
use Rattle.std.proofs.lemmas.Result.{IfOk-weaker}
use Rattle.mm_step.specs.Plain.{ids_in, label_ids}
use Rattle.mm_proof.proofs.ProofVerdicts.StrictForm.{old_found}
use Rattle.mm_proof.proofs.form.spare_label.Goals as goal

pub returns : goal.returns
returns c =
    let numbers = label_ids c.hypotheses.result.now in
    IfOk-weaker c.first_old.result _ _
    (λ found told. (
      numbers,
      c.hypotheses.ensures.ids,
      old_found c.in_ok-seen.seen numbers (ids_in c.args.listed.now) c.in_ok-seen.ensures found
          told,
    ))
    c.first_old.ensures
