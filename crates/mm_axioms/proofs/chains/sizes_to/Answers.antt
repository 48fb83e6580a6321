-- One more proof was passed: it has its size, or is that of the end.
use Rattle.std.proofs.Common.{◌≡◌, ◌≤◌, ◌<◌, ◌+◌, ℕ, List, map, length, set, Contains, refl, sym}
use Rattle.std.proofs.Common.{subst, ◌∙◌, arith}
use Rattle.mm_base.proofs.Lists.{get_within, contains_from_at}
use Rattle.mm_frame.specs.declared.number.LabelId.{LabelId}
use Rattle.mm_rules.specs.Conclusion.{ProofUses}
use Rattle.mm_axioms.specs.Mirror.Chains.{size_at, IsSizeOver}
use Rattle.mm_axioms.proofs.ShortestChains.{sizing_starts, sizing_passes, sizing_sets, sizing_ends}
use Rattle.mm_axioms.proofs.ShortestChains.{over_as}
use Rattle.mm_axioms.proofs.chains.sizes_to.Goals as goal
use Rattle.mm_axioms.proofs.chains.sizes_to.Goals.{then-theorem-to, else-theorem-to}

pub loop-at-init : goal.loop-at-init
loop-at-init c =
    let room = c.max-room.ensures in
    sizing_starts c.args.kept.now c.args.to.0 c.max-room.result c.in_ok-sizes.sizes.items
    (set c.in_ok-sizes.sizes.items c.args.to.0 1)
    (λ u among. let less = c.end_of.ensures.room u among in omega (arith, less, room))
    (omega (arith, room))
    (c.in_ok-sizes.ensures.items_if_clones_equal (λ y h. h)) refl

pub size_over-size-requires : goal.size_over-size-requires
size_over-size-requires c = λ n among.
    let uses : List ProofUses = c.args.kept.now in
    let sizes : List ℕ = c.loop-at.sizes.items in
    let within : c.loop-at.at < length uses = omega arith in
    let found = get_within uses c.loop-at.at within in
    let u : ProofUses = found.0 in
    let those : Contains uses u = contains_from_at uses u (c.loop-at.at, found.1) in
    let used : Contains u.used n = (c.used.ensures u found.1 n).0 among in
    let before : n < u.number = c.requires.below u n those used in
    let room : u.number < length sizes = c.loop-at.invariant.room u those in
    let bound : size_at sizes n ≤ n + 1 = c.loop-at.invariant.small n in
    let fits : length sizes < 18446744073709551616 =
    subst (λ (xs : List ℕ). length xs < 18446744073709551616) c.deref.ensures.value
    c.deref.type_inv.0 in
    let less : size_at sizes n < 18446744073709551615 = omega (arith, before, room, bound, fits) in
    subst (λ (xs : List ℕ). size_at xs n < 18446744073709551615) (sym c.deref.ensures.value) less

pub index_mut-requires-then-theorem-to : goal.index_mut-requires-then-theorem-to
index_mut-requires-then-theorem-to c =
    let uses : List ProofUses = c.args.kept.now in
    let within : c.loop-at.at < length uses = omega arith in
    let found = get_within uses c.loop-at.at within in
    let less = c.loop-at.invariant.room found.0
    (contains_from_at uses found.0 (c.loop-at.at, found.1)) in
    let number : c.proof-theorem.result.0 ≡ found.0.number =
    c.proof-theorem.ensures found.0 found.1 in
    let here : c.proof-theorem.result.0 < length c.loop-at.sizes.items = subst
    (λ (n : ℕ). n < length c.loop-at.sizes.items) (sym number) less in
    omega (arith, here)

pub loop-at-preserved : goal.loop-at-preserved
loop-at-preserved c =
    let uses : List ProofUses = c.args.kept.now in
    let to : ℕ = c.args.to.0 in
    let k : ℕ = c.loop-at.at in
    let sizes : List ℕ = c.loop-at.sizes.items in
    let within : k < length uses = omega arith in
    let found = get_within uses k within in
    let u : ProofUses = found.0 in
    let number : c.proof-theorem.result.0 ≡ u.number = c.proof-theorem.ensures u found.1 in
    elim c.if-theorem-to.branch [
      | then-theorem-to w ↦
          let over : IsSizeOver sizes u.used w.size_over-size.result =
          over_as sizes (map (λ (l : LabelId). l.0) w.used.result.now) u.used
          w.size_over-size.result
          (λ n. ((w.used.ensures u found.1 n).0, (w.used.ensures u found.1 n).1))
          (subst (λ (ss : List ℕ). IsSizeOver ss
          (map (λ (l : LabelId). l.0) w.used.result.now) w.size_over-size.result)
          w.deref.ensures.value w.size_over-size.ensures) in
          rw (w.sizes-is, number)
          (sizing_sets uses to k sizes u w.size_over-size.result c.requires c.loop-at.invariant
          found.1 (λ e. w.if-theorem-to.true (number ∙ e)) over)
      | else-theorem-to w ↦
          rw w.sizes-is (sizing_passes uses to k sizes u c.loop-at.invariant found.1
          (sym number ∙ w.if-theorem-to.false))
    ]

pub returns : goal.returns
returns c =
    sizing_ends c.args.kept.now c.args.to.0 c.loop-at.at c.loop-at.sizes.items c.loop-at.invariant
    (omega arith)
