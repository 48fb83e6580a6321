-- None of those that stand near enough passed it, or the next did.
use Rattle.std.proofs.Common.{◌≡◌, ℕ, ◌-◌, inl, inr, arith, ap, subst, sym, ◌∙◌}
use Rattle.std.proofs.lemmas.Bool.{cases_lt, false≢true}
use Rattle.mm_diff.specs.Mirror.Changes.{IsPassedBy}
use Rattle.mm_diff.proofs.MovedPlaces.{end_passed, none_left}
use Rattle.mm_diff.proofs.moved.is_moved.Goals as goal

pub returns-then-other-end : goal.returns-then-other-end
returns-then-other-end c =
    let begins : c.saturating_sub-start.result
    ≡ c.args.at - c.distance-reach.result - c.distance-reach.result =
    c.saturating_sub-start.ensures
    ∙ ap (λ (n : ℕ). n - c.distance-reach.result) c.saturating_sub.ensures in (
      (λ t. absurd (false≢true t)),
      (λ h. absurd (none_left c.args.places.now c.args.at c.distance-reach.result
          c.saturating_sub-start.result c.loop-other.other _ c.requires c.distance-reach.ensures begins
          (λ k within near. end_passed k c.args.at c.distance-reach.result c.saturating_add.result
          c.saturating_add-end.result c.loop-other.other c.saturating_add.ensures
          c.saturating_add-end.ensures c.if-other-end.true (omega arith) near)
          c.loop-other.invariant h)),
    )

pub loop-other-preserved : goal.loop-other-preserved
loop-other-preserved c = λ k from less. elim (cases_lt k c.loop-other.other) [
  | inl before ↦ c.loop-other.invariant k from before
  | inr past ↦
      let same : k ≡ c.loop-other.other = omega arith in
      λ by. false≢true (sym c.if-is_passed_by.false
      ∙ c.is_passed_by.ensures.1
      (subst (λ (n : ℕ). IsPassedBy c.args.places.now c.args.at n) same by))
]

pub returns : goal.returns
returns c =
    let begins : c.saturating_sub-start.result
    ≡ c.args.at - c.distance-reach.result - c.distance-reach.result =
    c.saturating_sub-start.ensures
    ∙ ap (λ (n : ℕ). n - c.distance-reach.result) c.saturating_sub.ensures in (
      (λ t. absurd (false≢true t)),
      (λ h. absurd (none_left c.args.places.now c.args.at c.distance-reach.result
          c.saturating_sub-start.result c.loop-other.other _ c.requires c.distance-reach.ensures begins
          (λ k within near. let past = c.loop-other-test.false in omega arith)
          c.loop-other.invariant h)),
    )
