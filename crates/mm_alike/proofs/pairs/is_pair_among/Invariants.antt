-- None of the pairs so far has the names.
use Rattle.std.proofs.Common.{ℕ, take, Contains}
use Rattle.mm_alike.specs.Mirror.Names.{numbers_of_pairs, IsPairOfNames}
use Rattle.mm_alike.proofs.pairs.is_pair_among.Given as goal

abbrev pub invariant-loop-other : goal.invariant-loop-other
invariant-loop-other l =
    (q : ℕ × ℕ) → Contains (numbers_of_pairs (take l.other-index l.pairs)) q
    → ¬ (IsPairOfNames l.old.statements l.new.statements (l.pair.0.0, l.pair.1.0) q)
