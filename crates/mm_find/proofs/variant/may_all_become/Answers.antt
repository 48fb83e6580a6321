-- The first place that is left isn't so, or the others are asked.
use Rattle.std.proofs.Common.{◌∙◌, refl, sym, arith}
use Rattle.std.proofs.lemmas.Bool.{false≢true}
use Rattle.mm_find.specs.Variant.{MayBecome}
use Rattle.mm_find.specs.Mirror.Types.{type_in}
use Rattle.mm_find.proofs.Variants.{place_met, place_unmet, places_met}
use Rattle.mm_find.proofs.variant.may_all_become.Goals as goal

pub bounds-symbols-at : goal.bounds-symbols-at
bounds-symbols-at c = omega (arith, c.requires, c.loop-at-test.true)

pub loop-at-init : goal.loop-at-init
loop-at-init c = ((λ h. h), (λ h. h))

pub loop-at-preserved : goal.loop-at-preserved
loop-at-preserved c =
    place_met (MayBecome (type_in c.args.types.now)) c.args.tokens.now c.args.symbols.now c.loop-at.at _ _ _ c.loop-at-test.true
    (omega (arith, c.requires, c.loop-at-test.true))
    (c.may_become.ensures.0 c.if-not-may_become.false) c.loop-at.invariant

pub returns-then-not-may_become : goal.returns-then-not-may_become
returns-then-not-may_become c = (
  (λ t. absurd (false≢true t)),
  (λ all. absurd (place_unmet (MayBecome (type_in c.args.types.now)) c.args.tokens.now c.args.symbols.now c.loop-at.at _ _ _
      c.loop-at-test.true (omega (arith, c.requires, c.loop-at-test.true))
      (λ so. false≢true (sym c.if-not-may_become.true ∙ c.may_become.ensures.1 so)) c.loop-at.invariant all)),
)

pub returns : goal.returns
returns c = (
  (λ t. places_met (MayBecome (type_in c.args.types.now)) c.args.tokens.now c.args.symbols.now c.loop-at.at _ c.loop-at-test.false
      (omega (arith, c.requires, c.loop-at-test.false)) c.loop-at.invariant),
  (λ all. refl),
)
