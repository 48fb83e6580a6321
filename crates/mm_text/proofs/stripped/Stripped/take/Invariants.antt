-- What was taken so far is stripped.
use Rattle.std.proofs.Common.{length, ◌-◌, ◌≤◌, ◌++◌, List, ℕ, take}
use Rattle.mm_text.specs.Mirror.Stripped.{IsStripped}
use Rattle.mm_text.proofs.stripped.Stripped.take.Given as goal

abbrev pub invariant-loop-at : goal.invariant-loop-at
invariant-loop-at l = (l.at ≤ length l.piece)
    × ((bytes : List ℕ) → IsStripped bytes l.initial.self.kept.items l.initial.self.state
    → IsStripped (bytes ++ take l.at l.piece) l.self.kept.items l.self.state)

abbrev pub decreases-loop-at : goal.decreases-loop-at
decreases-loop-at l = length l.piece - l.at
