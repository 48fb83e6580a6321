use Rattle.mm_code.specs.declared.code.Code.TheVariants.{Tag}
use Rattle.mm_step.specs.Plain.{ids_in}
use Rattle.mm_proof.proofs.ProofVerdicts.StrictForm.{marks_more, marks_all}
use Rattle.mm_proof.proofs.form.loose_mark.Goals as goal
use Rattle.mm_proof.proofs.form.loose_mark.Goals.{in-Tag+else-not-is_after_assertion, in_default}

pub loop-index-preserved : goal.loop-index-preserved
loop-index-preserved c = elim c.match-one.branch [
  | in-Tag+else-not-is_after_assertion w ↦ marks_more c.args.book.now.statements (ids_in c.args.entries.now) c.args.codes.now c.loop-index.index Tag c.loop-index-test.true c.loop-index.invariant
      (λ marked. w.is_after_assertion.ensures.0 w.if-not-is_after_assertion.false)
  | in_default w ↦ marks_more c.args.book.now.statements (ids_in c.args.entries.now) c.args.codes.now c.loop-index.index _ c.loop-index-test.true c.loop-index.invariant
      (λ marked. absurd (w.in_default.not-Tag marked))
]

pub returns : goal.returns
returns c =
    marks_all c.args.book.now.statements (ids_in c.args.entries.now) c.args.codes.now
    c.loop-index.index c.loop-index-test.false c.loop-index.invariant
