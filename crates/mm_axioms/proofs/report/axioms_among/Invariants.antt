-- The `$a` among the numbers so far.
use Rattle.std.proofs.Common.{◌<◌, map}
use Rattle.mm_rules.specs.Rests.{AreInOrder}
use Rattle.mm_rules.specs.Mirror.Marks.{IsMarked, IsAxiomNumber}
use Rattle.mm_axioms.proofs.report.axioms_among.Given as goal

abbrev pub invariant-loop-number : goal.invariant-loop-number
invariant-loop-number l =
    AreInOrder (λ n. (n < l.number) × (IsAxiomNumber l.book.statements n × IsMarked l.marks n)) (map (λ id. id.0) l.axioms.items)
