-- All places are so where those are that are left.
use Rattle.std.proofs.Common.{◌↔◌, drop}
use Rattle.std.specs.List.{AllZip}
use Rattle.mm_code.specs.Layout.{texts}
use Rattle.mm_find.specs.Variant.{Agree}
use Rattle.mm_find.proofs.variant.agrees_with_all.Given as goal

abbrev pub invariant-loop-at : goal.invariant-loop-at
invariant-loop-at l =
    AllZip (Agree l.token l.symbol) (texts l.tokens) (texts l.symbols)
    ↔ AllZip (Agree l.token l.symbol) (texts (drop l.at l.tokens)) (texts (drop l.at l.symbols))
