-- A window is a variant, or none is.
use Rattle.std.proofs.Common.{◌+◌, ◌-◌, length, refl, arith}
use Rattle.std.proofs.lemmas.Bool.{false≢true}
use Rattle.mm_find.specs.Mirror.Types.{type_in}
use Rattle.mm_find.proofs.Variants.{window_met, windows_unmet}
use Rattle.mm_find.proofs.variant.some_are_variant.Goals as goal

pub returns-then-are_variant : goal.returns-then-are_variant
returns-then-are_variant c = (
  (λ t. window_met (type_in c.args.types.now) c.args.tokens.now c.args.symbols.now c.loop-at.at
      (c.loop-at.at + length c.args.tokens.now - c.loop-at.at)
      (c.are_variant.ensures.0 c.if-are_variant.true)),
  (λ h. refl),
)

pub returns : goal.returns
returns c = (
  (λ t. absurd (false≢true t)),
  (λ has. absurd (windows_unmet (type_in c.args.types.now) c.args.tokens.now c.args.symbols.now
      c.if-symbols-tokens.false
      (λ k less. c.loop-at.invariant k (omega (arith, less, c.loop-at-test.false))) has)),
)
