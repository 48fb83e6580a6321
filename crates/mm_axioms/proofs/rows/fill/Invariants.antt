-- What the numbers so far reach.
use Rattle.std.proofs.Common.{◌≡◌, map, take, length}
use Rattle.mm_axioms.proofs.Resting.SettledTheorems.{IsRowOf}
use Rattle.mm_axioms.proofs.rows.fill.Given as goal

abbrev pub invariant-loop-number : goal.invariant-loop-number
invariant-loop-number l =
    (length l.set ≡ length l.fn.set)
    × IsRowOf l.rows (map (λ x. x.0) l.numbers) (map (λ x. x.0) (take l.number-index l.used)) l.set
