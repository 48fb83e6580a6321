-- Those that say the same among the numbers so far.
use Rattle.std.proofs.Common.{map, take, Contains}
use Rattle.mm_rules.specs.Rests.{AreInOrder}
use Rattle.mm_alike.specs.Alike.{AreAlike}
use Rattle.mm_diff.proofs.renamed.alike_among.Given as goal

abbrev pub invariant-loop-one : goal.invariant-loop-one
invariant-loop-one l =
    AreInOrder (λ n. Contains (map (λ x. x.0) (take l.one-index l.those)) n
    × AreAlike l.book.statements l.other.statements l.id.0 n) (map (λ x. x.0) l.alike.items)
