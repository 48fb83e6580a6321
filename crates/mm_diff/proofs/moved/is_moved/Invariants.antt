-- None of those so far passed it.
use Rattle.std.proofs.Common.{ℕ, ◌<◌, ◌≤◌}
use Rattle.mm_diff.specs.Mirror.Changes.{IsPassedBy}
use Rattle.mm_diff.proofs.moved.is_moved.Given as goal

abbrev pub invariant-loop-other : goal.invariant-loop-other
invariant-loop-other l =
    (k : ℕ) → l.start ≤ k → k < l.other → ¬ (IsPassedBy l.places l.at k)
