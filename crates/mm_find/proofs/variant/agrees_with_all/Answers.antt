-- The first place that is left isn't so, or the others are asked.
use Rattle.std.proofs.Common.{◌∙◌, refl, sym, arith}
use Rattle.std.proofs.lemmas.Bool.{false≢true}
use Rattle.mm_find.specs.Variant.{Agree}
use Rattle.mm_find.proofs.Variants.{place_met, place_unmet, places_met}
use Rattle.mm_find.proofs.variant.agrees_with_all.Goals as goal

pub bounds-symbols-at : goal.bounds-symbols-at
bounds-symbols-at c = omega (arith, c.requires, c.loop-at-test.true)

pub loop-at-init : goal.loop-at-init
loop-at-init c = ((λ h. h), (λ h. h))

pub loop-at-preserved : goal.loop-at-preserved
loop-at-preserved c =
    place_met (Agree c.args.token.now c.args.symbol.now) c.args.tokens.now c.args.symbols.now c.loop-at.at _ _ _ c.loop-at-test.true
    (omega (arith, c.requires, c.loop-at-test.true))
    (c.agree.ensures.0 c.if-not-agree.false) c.loop-at.invariant

pub returns-then-not-agree : goal.returns-then-not-agree
returns-then-not-agree c = (
  (λ t. absurd (false≢true t)),
  (λ all. absurd (place_unmet (Agree c.args.token.now c.args.symbol.now) c.args.tokens.now c.args.symbols.now c.loop-at.at _ _ _
      c.loop-at-test.true (omega (arith, c.requires, c.loop-at-test.true))
      (λ so. false≢true (sym c.if-not-agree.true ∙ c.agree.ensures.1 so)) c.loop-at.invariant all)),
)

pub returns : goal.returns
returns c = (
  (λ t. places_met (Agree c.args.token.now c.args.symbol.now) c.args.tokens.now c.args.symbols.now c.loop-at.at _ c.loop-at-test.false
      (omega (arith, c.requires, c.loop-at-test.false)) c.loop-at.invariant),
  (λ all. refl),
)
