-- Those that stand under no other label among the numbers so far.
use Rattle.std.proofs.Common.{ℕ, map, take, Contains}
use Rattle.mm_rules.specs.Rests.{AreInOrder}
use Rattle.mm_diff.specs.Diff.{IsRenamed}
use Rattle.mm_diff.proofs.renamed.those_missing.Given as goal

abbrev pub invariant-loop-id : goal.invariant-loop-id
invariant-loop-id l =
    AreInOrder (λ n. Contains (map (λ x. x.0) (take l.id-index l.alone)) n
    × ((m : ℕ) → ¬ (IsRenamed l.book.statements l.other.statements n m)))
    (map (λ x. x.0) l.missing.items)
