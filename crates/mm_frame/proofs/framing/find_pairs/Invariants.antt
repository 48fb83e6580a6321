use Rattle.std.proofs.Common.{ℕ, List}
use Rattle.mm_frame.specs.Mirror.Layout.{statements_of}
use Rattle.mm_frame.specs.Mirror.Gathered.{AreVariables, AreFound}
use Rattle.mm_frame.proofs.framing.find_pairs.Given as goal

abbrev pub invariant-loop-i : goal.invariant-loop-i
invariant-loop-i l = (indices : List ℕ) → AreVariables (statements_of l.tables) indices l.variables.items → AreFound (statements_of l.tables) l.variables.items l.i 0 l.pairs.items
