-- The marked ones among the numbers so far.
use Rattle.std.proofs.Common.{map, take, Contains}
use Rattle.mm_rules.specs.Rests.{AreInOrder}
use Rattle.mm_rules.specs.Mirror.Marks.{IsMarked}
use Rattle.mm_axioms.proofs.report.marked_among.Given as goal

abbrev pub invariant-loop-number : goal.invariant-loop-number
invariant-loop-number l =
    AreInOrder (λ n. Contains (map (λ id. id.0) (take l.number-index l.numbers)) n × IsMarked l.marks n) (map (λ id. id.0) l.marked.items)
