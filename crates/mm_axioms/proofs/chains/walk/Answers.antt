-- One more number was put behind the chain.
use Rattle.std.proofs.Common.{◌≡◌, ◌≤◌, ◌<◌, ◌+◌, ◌-◌, ◌++◌, ◌∷◌, [], ℕ, List, map, sym}
use Rattle.std.proofs.Common.{subst, ◌∙◌, arith}
use Rattle.std.proofs.lemmas.List.{map-append}
use Rattle.std.proofs.lemmas.Option.{same_Some}
use Rattle.mm_frame.specs.declared.number.LabelId.{LabelId}
use Rattle.mm_rules.specs.Mirror.Marks.{UsedIn}
use Rattle.mm_axioms.specs.Mirror.Chains.{size_at}
use Rattle.mm_axioms.proofs.ShortestChains.{walk_starts, walk_can, walk_goes, walk_ends}
use Rattle.mm_axioms.proofs.chains.walk.Goals as goal

pub loop-last-init : goal.loop-last-init
loop-last-init c =
    rw (c.in_ok-push.ensures.items, c.new-chain.ensures.items)
    (walk_starts c.args.kept.now c.args.from.0 c.args.to.0 c.args.sizes.now c.requires.reached)

pub unreachable-requires : goal.unreachable-requires
unreachable-requires c =
    let (n, used, some, is) =
    walk_can c.args.kept.now c.args.to.0 c.args.sizes.now c.loop-last.last.0 c.requires.sizes
    c.loop-last.invariant.reached c.loop-last-test.true in
    let own = c.size_of-size.ensures in
    let wanted : size_at c.args.sizes.now n ≡ c.size_of-size.result - 1 = omega (arith, own, is) in
    let (id, told, before) = c.first_of_size.ensures.first n
    ((c.used_by.ensures n).1 used) wanted in
    c.in_default.not-Some id told

pub loop-last-smaller : goal.loop-last-smaller
loop-last-smaller c =
    let own = c.size_of-size.ensures in
    let some = c.loop-last.invariant.reached in
    let has : size_at c.args.sizes.now c.in-Some.next.0 ≡ c.size_of-size.result - 1 =
    (c.in-Some.ensures.found).1 in
    let less : size_at c.args.sizes.now c.in-Some.next.0 < size_at c.args.sizes.now
    c.loop-last.last.0 = omega (arith, own, some, has) in
    less

pub loop-last-preserved : goal.loop-last-preserved
loop-last-preserved c =
    let sizes : List ℕ = c.args.sizes.now in
    let last : ℕ = c.loop-last.last.0 in
    let next : ℕ = c.in-Some.next.0 in
    let (m, holds, has, is) =
    walk_can c.args.kept.now c.args.to.0 sizes last c.requires.sizes
    c.loop-last.invariant.reached c.loop-last-test.true in
    let own = c.size_of-size.ensures in
    let wanted : size_at sizes next ≡ c.size_of-size.result - 1 = (c.in-Some.ensures.found).1 in
    let size : size_at sizes last ≡ size_at sizes next + 1 = omega (arith, own, wanted, is) in
    let some : 0 < size_at sizes next = omega (arith, size, is, has) in
    let used : UsedIn c.args.kept.now last next =
    (c.used_by.ensures next).0 (c.in-Some.ensures.found).0 in
    let listed : map (λ (l : LabelId). l.0) (c.loop-last.chain.items ++ c.in-Some.next ∷ []) ≡ map
    (λ (l : LabelId). l.0) c.loop-last.chain.items ++ next ∷ [] =
    map-append (λ (l : LabelId). l.0) c.loop-last.chain.items (c.in-Some.next ∷ []) in
    rw (c.in_ok-push-2.ensures.items, listed)
    (walk_goes c.args.kept.now c.args.from.0 c.args.to.0 sizes
    (map (λ (l : LabelId). l.0) c.loop-last.chain.items) last next c.requires.sizes
    c.loop-last.invariant
    used size some
    (λ n among same.
    let (id, told, before) = c.first_of_size.ensures.first n ((c.used_by.ensures n).1 among)
    (same ∙ wanted) in
    let one : c.in-Some.next ≡ id = same_Some c.in-Some.next id (sym c.in-Some.is ∙ told) in
    subst (λ (l : LabelId). l.0 ≤ n) (sym one) before))

pub returns : goal.returns
returns c =
    walk_ends c.args.kept.now c.args.from.0 c.args.to.0 c.args.sizes.now
    (map (λ (l : LabelId). l.0) c.loop-last.chain.items) c.loop-last.last.0 c.requires.sizes
    c.loop-last.invariant
    c.loop-last-test.false
