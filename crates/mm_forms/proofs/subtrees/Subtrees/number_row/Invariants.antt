use Rattle.std.proofs.Common.{List, drop}
use Rattle.mm_frame.specs.Sentence.{Sentence}
use Rattle.mm_step.specs.Tree.{Trees}
use Rattle.mm_forms.specs.Mirror.Subtrees.{AreOnce, KeepNumbers, AreTreesOf, StandsFor}
use Rattle.mm_forms.proofs.subtrees.Subtrees.number_row.Given as goal

abbrev pub invariant-loop-index : goal.invariant-loop-index
invariant-loop-index l =
    KeepNumbers l.fn.self l.self × (AreOnce l.fn.self → AreOnce l.self)
    × ((st : List Sentence) (row : Trees) → AreTreesOf st l.fn.self (drop l.index l.trees) row → StandsFor st l.self l.right row)
