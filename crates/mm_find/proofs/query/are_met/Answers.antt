-- The first of the patterns that are left isn't met, or the others are asked.
use Rattle.std.proofs.Common.{refl, sym, ◌∙◌}
use Rattle.std.proofs.lemmas.Bool.{false≢true}
use Rattle.mm_find.specs.Found.{IsMet}
use Rattle.mm_find.specs.Plain.{plain_assertion, plain_query}
use Rattle.mm_find.specs.Mirror.Types.{type_in}
use Rattle.mm_find.proofs.Queries.{all_met, each_met, each_unmet}
use Rattle.mm_find.proofs.query.are_met.Goals as goal

pub loop-pattern-init : goal.loop-pattern-init
loop-pattern-init c = ((λ h. h), (λ h. h))

pub loop-pattern-preserved : goal.loop-pattern-preserved
loop-pattern-preserved c =
    each_met c.args.patterns.now c.loop-pattern.pattern-index c.pattern-item.result
    c.deref.result.now c.pattern-item.is c.deref.ensures.value
    c.loop-pattern-test.true
    (IsMet (plain_query c.args.query.now) (type_in c.args.types.now)
    (plain_assertion c.args.assertion.now)) _
    (c.in_ok-met.ensures.0 c.if-not-met.false) c.loop-pattern.invariant

pub returns-then-not-met : goal.returns-then-not-met
returns-then-not-met c = (
  (λ t. absurd (false≢true t)),
  (λ all. absurd (each_unmet c.args.patterns.now c.loop-pattern.pattern-index
      c.pattern-item.result
      c.deref.result.now c.pattern-item.is
      c.deref.ensures.value c.loop-pattern-test.true
      (IsMet (plain_query c.args.query.now) (type_in c.args.types.now)
      (plain_assertion c.args.assertion.now)) _
      (λ met. false≢true (sym c.if-not-met.true ∙ c.in_ok-met.ensures.1 met))
      c.loop-pattern.invariant all)),
)

pub returns : goal.returns
returns c = (
  (λ t. all_met c.args.patterns.now c.loop-pattern.pattern-index
      (IsMet (plain_query c.args.query.now) (type_in c.args.types.now)
      (plain_assertion c.args.assertion.now)) _
      c.loop-pattern-test.false c.loop-pattern.invariant),
  (λ all. refl),
)
