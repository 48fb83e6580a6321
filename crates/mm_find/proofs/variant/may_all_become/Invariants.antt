-- All places are so where those are that are left.
use Rattle.std.proofs.Common.{◌↔◌, drop}
use Rattle.std.specs.List.{AllZip}
use Rattle.mm_code.specs.Layout.{texts}
use Rattle.mm_find.specs.Variant.{MayBecome}
use Rattle.mm_find.specs.Mirror.Types.{type_in}
use Rattle.mm_find.proofs.variant.may_all_become.Given as goal

abbrev pub invariant-loop-at : goal.invariant-loop-at
invariant-loop-at l =
    AllZip (MayBecome (type_in l.types)) (texts l.tokens) (texts l.symbols)
    ↔ AllZip (MayBecome (type_in l.types)) (texts (drop l.at l.tokens)) (texts (drop l.at l.symbols))
