-- The numbers of the words so far.
use Rattle.std.proofs.Common.{map, take}
use Rattle.mm_rules.specs.Rests.{AreInOrder}
use Rattle.mm_axioms.specs.Mirror.Rows.{row_in}
use Rattle.mm_axioms.proofs.Resting.RowNumbers.{ReachedIn}
use Rattle.mm_axioms.proofs.rows.reached.Given as goal

abbrev pub invariant-loop-word : goal.invariant-loop-word
invariant-loop-word l =
    AreInOrder (ReachedIn (map (λ x. x.0) l.fn.numbers)
    (take l.word-index (row_in l.fn.rows l.fn.theorem.0))) (map (λ x. x.0) l.reached.items)
