use Rattle.std.proofs.Common.{map, take}
use Rattle.mm_frame.specs.Sentence.{Sentence}
use Rattle.mm_frame.specs.Numbers.{AreNumbers}
use Rattle.mm_frame.specs.Mirror.Layout.{statements_of}
use Rattle.mm_frame.specs.Mirror.Gathered.{AreGathered}
use Rattle.mm_frame.proofs.framing.find_unsorted.Given as goal

abbrev pub invariant-loop-index : goal.invariant-loop-index
invariant-loop-index l =
    (s : Sentence) → AreNumbers (statements_of l.tables) (map (λ n. n.0) l.expression) s.symbols
    → AreGathered (statements_of l.tables) (take l.index-index l.tables.essentials.items) s l.indices.items
