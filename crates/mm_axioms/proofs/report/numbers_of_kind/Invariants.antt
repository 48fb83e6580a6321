-- Those of the kind among the numbers so far.
use Rattle.std.proofs.Common.{◌<◌, map}
use Rattle.mm_frame.specs.Taken.{kind_behind}
use Rattle.mm_rules.specs.Rests.{AreInOrder}
use Rattle.mm_axioms.specs.Mirror.Tables.{IsOfKind}
use Rattle.mm_axioms.proofs.report.numbers_of_kind.Given as goal

abbrev pub invariant-loop-number : goal.invariant-loop-number
invariant-loop-number l =
    AreInOrder (λ n. (n < l.number) × IsOfKind l.book.statements (kind_behind l.kind) n) (map (λ x. x.0) l.numbers.items)
