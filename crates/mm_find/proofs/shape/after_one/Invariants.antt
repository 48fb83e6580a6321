-- The marks that are left follow those so far.
use Rattle.std.proofs.Common.{◌≡◌, ◌++◌, ◌∷◌, drop, false}
use Rattle.mm_code.specs.Layout.{texts}
use Rattle.mm_find.specs.Mirror.Marks.{shifted}
use Rattle.mm_find.proofs.shape.after_one.Given as goal

abbrev pub invariant-loop-at : goal.invariant-loop-at
invariant-loop-at l =
    l.next.items ++ shifted l.token (texts (drop l.at l.symbols)) (drop l.at l.marks)
    ≡ false ∷ shifted l.token (texts l.symbols) l.marks
