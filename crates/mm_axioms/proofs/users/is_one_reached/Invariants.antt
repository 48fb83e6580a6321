-- None of the numbers so far is reached.
use Rattle.std.proofs.Common.{◌≡◌, ◌⊎◌, ℕ, map, take, Contains}
use Rattle.mm_rules.specs.Mirror.Marks.{IsMarked}
use Rattle.mm_axioms.proofs.users.is_one_reached.Given as goal

abbrev pub invariant-loop-number : goal.invariant-loop-number
invariant-loop-number l =
    (n : ℕ) → Contains (map (λ id. id.0) (take l.number-index l.numbers)) n → ¬ ((n ≡ l.assertion.0) ⊎ IsMarked l.marks n)
