-- No window so far is a variant.
use Rattle.std.proofs.Common.{ℕ, ◌<◌, length}
use Rattle.mm_code.specs.Layout.{texts}
use Rattle.mm_find.specs.Variant.{AreVariant}
use Rattle.mm_find.specs.Mirror.Types.{type_in}
use Rattle.mm_find.proofs.Variants.{window}
use Rattle.mm_find.proofs.variant.some_are_variant.Given as goal

abbrev pub invariant-loop-at : goal.invariant-loop-at
invariant-loop-at l =
    (k : ℕ) → k < l.at
    → ¬ (AreVariant (type_in l.types) (texts l.tokens)
    (texts (window l.symbols k (length l.tokens))))
