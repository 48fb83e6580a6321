use Rattle.std.proofs.Common.{◌≡◌, ℕ, List, Some, length, take, slice_get}
use Rattle.mm_frame.specs.declared.number.Sym.{Sym}
use Rattle.mm_frame.specs.Mirror.Layout.{statements_of}
use Rattle.mm_frame.specs.Mirror.Gathered.{AreVariables, AreFound}
use Rattle.mm_frame.proofs.framing.add_pairs.Given as goal

abbrev pub invariant-loop-other : goal.invariant-loop-other
invariant-loop-other l =
    (indices : List ℕ) (variables : List Sym) → AreVariables (statements_of l.tables) indices variables → l.others ≡ take (length l.others) variables → slice_get variables (length l.others) ≡ Some l.variable
    → AreFound (statements_of l.tables) variables (length l.others) 0 l.fn.pairs.items
    → AreFound (statements_of l.tables) variables (length l.others) l.other-index l.pairs.items
