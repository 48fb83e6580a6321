-- The rows of the proofs so far, and an empty set.
use Rattle.std.proofs.Common.{◌≡◌, ◌+◌, ◌/◌, map, length, replicate}
use Rattle.mm_axioms.proofs.Resting.SettledTheorems.{AreRows}
use Rattle.mm_axioms.proofs.rows.rows_of.Given as goal

abbrev pub invariant-loop-at : goal.invariant-loop-at
invariant-loop-at l =
    AreRows l.kept (map (λ x. x.0) l.numbers) l.at l.rows
    × (l.set ≡ replicate (length l.numbers / 64 + 1) 0)
