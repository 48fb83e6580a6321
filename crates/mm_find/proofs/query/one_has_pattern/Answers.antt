-- The first has the pattern that is left, or another one.
use Rattle.std.proofs.Common.{refl, sym, ◌∙◌}
use Rattle.std.proofs.lemmas.Bool.{false≢true}
use Rattle.mm_code.specs.Layout.{texts}
use Rattle.mm_find.specs.Found.{HasPattern}
use Rattle.mm_find.specs.Mirror.Types.{type_in}
use Rattle.mm_find.proofs.Queries.{none_met, one_met, one_unmet}
use Rattle.mm_find.proofs.query.one_has_pattern.Goals as goal

pub loop-expression-init : goal.loop-expression-init
loop-expression-init c = ((λ h. h), (λ h. h))

pub loop-expression-preserved : goal.loop-expression-preserved
loop-expression-preserved c =
    one_unmet c.args.expressions.now c.loop-expression.expression-index c.expression-item.result
    c.deref.result.now c.expression-item.is
    c.deref.ensures.value c.loop-expression-test.true
    (HasPattern c.args.matching (type_in c.args.types.now) (texts c.args.pattern.now)) _
    (λ has. false≢true (sym c.if-met.false ∙ c.in_ok-met.ensures.1 has)) c.loop-expression.invariant

pub returns-then-met : goal.returns-then-met
returns-then-met c = (
  (λ t. one_met c.args.expressions.now c.loop-expression.expression-index c.expression-item.result
      c.deref.result.now c.expression-item.is
      c.deref.ensures.value c.loop-expression-test.true
      (HasPattern c.args.matching (type_in c.args.types.now) (texts c.args.pattern.now)) _
      (c.in_ok-met.ensures.0 c.if-met.true) c.loop-expression.invariant),
  (λ h. refl),
)

pub returns : goal.returns
returns c = (
  (λ t. absurd (false≢true t)),
  (λ h. absurd (none_met c.args.expressions.now c.loop-expression.expression-index
      (HasPattern c.args.matching (type_in c.args.types.now) (texts c.args.pattern.now)) _
      c.loop-expression-test.false c.loop-expression.invariant h)),
)
