-- The steps that are chosen come from those of the fully shared proof.
use Rattle.std.proofs.Common.{length, ap, arith}
use Rattle.std.proofs.lemmas.Result.{IfOk-weaker}
use Rattle.mm_forms.specs.ChosenSharing.{IsWorthATag}
use Rattle.mm_forms.proofs.PackedProofs.PackingLoops.{steps_made_before}
use Rattle.mm_forms.proofs.packing.pack_chosen.Goals as goal

pub pack-packed-requires-clause-steps : goal.pack-packed-requires-clause-steps
pack-packed-requires-clause-steps c =
    let fewer = ap length c.deref-2.ensures.value in
    let full = ap length c.deref.ensures.value in
    omega (arith, fewer, c.in_ok-fewer.ensures.few, full, c.requires.steps)

pub pack-packed-requires-clause-made : goal.pack-packed-requires-clause-made
pack-packed-requires-clause-made c =
    let of = c.requires.shared in
    rw c.deref-2.ensures.value
    (steps_made_before IsWorthATag of.statements _ of.trees _ of.meant of.once
    (c.in_ok-fewer.ensures.chosen of.statements of.trees (rw c.deref.ensures.value of.steps)))

pub returns-clause-packed : goal.returns-clause-packed
returns-clause-packed c =
    IfOk-weaker c.pack-packed.result _ _ (λ packed h statements trees shared. (
      _,
      c.in_ok-fewer.ensures.chosen statements trees (rw c.deref.ensures.value shared),
      rw c.deref-2.ensures.value at h,
    )) c.pack-packed.ensures.packed
