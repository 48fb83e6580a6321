use Rattle.std.proofs.Common.{ℕ, arith, subst, sym, ◌∙◌, length, ◌≡◌}
use Rattle.mm_frame.proofs.DistinctPairs.AddedPairs.{IsLeft, step_next, step_found, step_none}
use Rattle.mm_frame.proofs.DistinctPairs.AddedPairs.{left_all}
use Rattle.std.proofs.lemmas.Option.{slice_get_within}
use Rattle.mm_frame.proofs.pairs.latest_from.Goals as goal

pub loop-init : goal.loop-init
loop-init c = record {
  left = λ pair last. (
    length c.args.spans.now,
    omega arith,
    last,
    λ j span le there same.
        absurd (let lt = slice_get_within c.args.spans.now j span there in omega arith),
  );
}

pub returns-in-Some : goal.returns-in-Some
returns-in-Some c =
    step_found c.args.spans.now c.args.newest c.loop.next c.args.before c.loop.counter c.in-Some.span c.loop.invariant (sym c.span_at.ensures ∙ c.in-Some.is) c.if-span-before.true

pub returns-in-None : goal.returns-in-None
returns-in-None c = step_none c.args.spans.now c.args.newest c.loop.next c.args.before c.loop.counter c.loop.invariant (sym c.span_at.ensures ∙ c.in-None.is)

pub loop-preserved : goal.loop-preserved
loop-preserved c =
    step_next c.args.spans.now c.args.newest c.loop.next c.args.before c.loop.counter c.in-Some.span c.requires c.loop.invariant (sym c.span_at.ensures ∙ c.in-Some.is) c.if-span-before.false

pub returns : goal.returns
returns c =
    let all : c.loop.counter ≡ length c.args.spans.now = omega (arith, c.loop.auto.counter-end) in
    left_all c.args.spans.now c.args.newest c.loop.next c.args.before (subst (λ (n : ℕ). IsLeft c.args.spans.now c.args.newest c.loop.next c.args.before n) all c.loop.invariant)
