-- Each of the pairs so far is among the others.
use Rattle.std.proofs.Common.{ℕ, take, Contains}
use Rattle.mm_alike.specs.Mirror.Names.{numbers_of_pairs, IsPairAmong}
use Rattle.mm_alike.proofs.pairs.are_pairs_among.Given as goal

abbrev pub invariant-loop-pair : goal.invariant-loop-pair
invariant-loop-pair l =
    (p : ℕ × ℕ) → Contains (numbers_of_pairs (take l.pair-index l.pairs)) p
    → IsPairAmong l.old.statements l.new.statements p (numbers_of_pairs l.others)
