use Rattle.std.proofs.Common.{length, ap, arith}
use Rattle.std.proofs.lemmas.Result.{IfOk-weaker}
use Rattle.mm_step.specs.Plain.{label_ids}
use Rattle.mm_forms.proofs.PackedProofs.PackingLoops.{steps_made_before}
use Rattle.mm_forms.proofs.PackedProofs.PackedTrees.{packed_made}
use Rattle.mm_forms.proofs.packing.compress.Goals as goal

pub pack-packed-requires-clause-steps : goal.pack-packed-requires-clause-steps
pack-packed-requires-clause-steps c =
    omega (arith, ap length c.deref.ensures.value, c.in_ok-shared.ensures.few)

pub pack-packed-requires-clause-made : goal.pack-packed-requires-clause-made
pack-packed-requires-clause-made c =
    let a = c.requires.steps in
    let t = c.requires.makes a.index a.s a.moves a.proof a.numbered in
    let its = c.in_ok-shared.ensures in
    rw c.deref.ensures.value
    (steps_made_before _ _ _ _ _ c.frame-own.ensures.sound.0 its.once
    (its.shared a.index a.s a.moves a.proof a.numbered t.0 t.1 t.2))

pub returns-clause-packed : goal.returns-clause-packed
returns-clause-packed c = IfOk-weaker c.pack-packed.result _ _ (λ packed h index s moves proof numbered label below makes.
    let st = c.args.book.now.statements in
    let its = c.frame-own.ensures.index in
    let shared = c.in_ok-shared.ensures in
    packed_made _ st c.args.id.0 index s its.0 c.frame-own.result _ label below moves _
    (label_ids c.hypotheses.result.now) packed.labels.items packed.codes.items
    c.frame-own.ensures.sound shared.once proof.numbered c.frame-own.ensures.book its.1
    c.hypotheses.ensures.ids makes (shared.shared index s moves proof numbered label below makes)
    (rw c.deref.ensures.value at h)) c.pack-packed.ensures.packed
