-- Those of the type among the numbers so far.
use Rattle.std.proofs.Common.{map, take, Contains}
use Rattle.mm_rules.specs.Rests.{AreInOrder}
use Rattle.mm_axioms.specs.Essential.{HaveOneType}
use Rattle.mm_axioms.proofs.essential.of_type.Given as goal

abbrev pub invariant-loop-number : goal.invariant-loop-number
invariant-loop-number l =
    AreInOrder (λ n. Contains
    (map (λ id. id.0) (take l.number-index l.numbers)) n × HaveOneType l.book.statements
    l.theorem.0 n) (map (λ id. id.0) l.chosen.items)
