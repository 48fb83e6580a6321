use Rattle.std.proofs.Common.{◌≡◌, length, ap, arith, sym, ◌∙◌, vec_len, rules}
use Rattle.mm_forms.specs.BigSubtrees.{IsBig}
use Rattle.mm_forms.proofs.PackedProofs.PackingLoops.{packed_steps, steps_made_before}
use Rattle.mm_forms.proofs.packing.pack_both.Goals as goal

pub pack-requires-clause-steps : goal.pack-requires-clause-steps
pack-requires-clause-steps c =
    omega (arith, ap length c.deref.ensures.value, c.requires.steps)

pub pack-requires-clause-made : goal.pack-requires-clause-made
pack-requires-clause-made c =
    let of = c.requires.shared in
    rw c.deref.ensures.value
    (steps_made_before IsBig of.statements _ of.trees _ of.meant of.once of.steps)

pub returns-in-Ok-clause-full : goal.returns-in-Ok-clause-full
returns-in-Ok-clause-full c = rw c.deref.ensures.value at c.in_ok-full.ensures.packed

pub returns-in-Ok-clause-chosen : goal.returns-in-Ok-clause-chosen
returns-in-Ok-clause-chosen c = rw c.in-Ok.is at c.pack_chosen.ensures.packed

pub returns-in-Ok-clause-steps : goal.returns-in-Ok-clause-steps
returns-in-Ok-clause-steps c =
    let long : vec_len c.args.shared.now.steps ≡ length c.args.shared.now.steps.items = search rules in
    c.len.ensures ∙ long
    ∙ sym (packed_steps _ _ _ _ (rw c.deref.ensures.value at c.in_ok-full.ensures.packed))
