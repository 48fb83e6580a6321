use Rattle.std.proofs.Common.{refl, subst, Bool}
use Rattle.mm_step.specs.Plain.{ids_in, token_texts}
use Rattle.mm_proof.proofs.ProofTokens.ProofLabels.{IdleOr, sofar_number, sofar_idle, sofar_all}
use Rattle.mm_proof.proofs.ProofTokens.ProofLabels.{text_among}
use Rattle.mm_proof.proofs.labels.fill_numbers.Goals as goal
use Rattle.mm_proof.proofs.labels.fill_numbers.Goals.{in-Number+in_ok-push-in-Number, in-Idle}

pub returns-in-Unknown-clause-fault : goal.returns-in-Unknown-clause-fault
returns-in-Unknown-clause-fault c = (refl, (_, text_among c.args.labels.now c.loop-label.label-index _ c.loop-label-test.true, c.in-Unknown.ensures))

pub loop-label-preserved : goal.loop-label-preserved
loop-label-preserved c = elim c.match-use_of.branch [
  | in-Number+in_ok-push-in-Number w ↦ rw (w.ids-is, w.idle-is, w.in_ok-push-in-Number.ensures.items)
      (sofar_number _ _ _ _ w.in-Number.number c.args.labels.now c.loop-label.label-index _ c.loop-label-test.true c.loop-label.invariant w.in-Number.ensures)
  | in-Idle w ↦ rw (w.ids-is, w.idle-is)
      (sofar_idle _ _ _ _ c.args.labels.now c.loop-label.label-index _ c.loop-label-test.true c.loop-label.invariant w.in-Idle.ensures)
]

pub returns-then-idle-clause-fault : goal.returns-then-idle-clause-fault
returns-then-idle-clause-fault c =
    let all = sofar_all _ _ _ _ c.args.labels.now c.loop-label.label-index c.loop-label-test.false c.loop-label.invariant in
    let idle = subst (λ (b : Bool). IdleOr c.args.book.now.statements c.args.own.now.index b (ids_in c.loop-label.ids.items) (token_texts c.args.labels.now)) c.if-idle.true all.1 in
    (refl, (all.0, idle.0, idle.1, idle.2))
