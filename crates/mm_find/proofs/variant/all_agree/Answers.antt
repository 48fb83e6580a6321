-- The first place that is left isn't so, or the others are asked.
use Rattle.std.proofs.Common.{◌∙◌, ℕ, List, refl, sym, arith}
use Rattle.std.specs.List.{AllZip}
use Rattle.std.proofs.lemmas.Bool.{false≢true}
use Rattle.mm_code.specs.Layout.{texts}
use Rattle.mm_find.specs.Variant.{Agree}
use Rattle.mm_find.proofs.Variants.{place_met, place_unmet, places_met}
use Rattle.mm_find.proofs.variant.all_agree.Goals as goal

pub bounds-symbols-at : goal.bounds-symbols-at
bounds-symbols-at c = omega (arith, c.requires, c.loop-at-test.true)

pub loop-at-init : goal.loop-at-init
loop-at-init c = ((λ h. h), (λ h. h))

pub loop-at-preserved : goal.loop-at-preserved
loop-at-preserved c =
    place_met (λ (token symbol : List ℕ). AllZip (Agree token symbol) (texts c.args.tokens.now) (texts c.args.symbols.now)) c.args.tokens.now c.args.symbols.now c.loop-at.at _ _ _ c.loop-at-test.true
    (omega (arith, c.requires, c.loop-at-test.true))
    (c.agrees_with_all.ensures.0 c.if-not-agrees_with_all.false) c.loop-at.invariant

pub returns-then-not-agrees_with_all : goal.returns-then-not-agrees_with_all
returns-then-not-agrees_with_all c = (
  (λ t. absurd (false≢true t)),
  (λ all. absurd (place_unmet (λ (token symbol : List ℕ). AllZip (Agree token symbol) (texts c.args.tokens.now) (texts c.args.symbols.now)) c.args.tokens.now c.args.symbols.now c.loop-at.at _ _ _
      c.loop-at-test.true (omega (arith, c.requires, c.loop-at-test.true))
      (λ so. false≢true (sym c.if-not-agrees_with_all.true ∙ c.agrees_with_all.ensures.1 so)) c.loop-at.invariant all)),
)

pub returns : goal.returns
returns c = (
  (λ t. places_met (λ (token symbol : List ℕ). AllZip (Agree token symbol) (texts c.args.tokens.now) (texts c.args.symbols.now)) c.args.tokens.now c.args.symbols.now c.loop-at.at _ c.loop-at-test.false
      (omega (arith, c.requires, c.loop-at-test.false)) c.loop-at.invariant),
  (λ all. refl),
)
