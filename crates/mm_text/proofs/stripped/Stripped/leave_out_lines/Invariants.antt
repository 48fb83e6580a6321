-- What a comment says was left out so far.
use Rattle.std.proofs.Common.{◌≡◌, ℕ, List, length, ◌-◌, ◌≤◌, ◌++◌, take, drop}
use Rattle.mm_text.specs.declared.stripped.State.TheVariants.{Inside}
use Rattle.mm_text.specs.Mirror.Stripped.{IsStripped}
use Rattle.mm_text.proofs.stripped.Stripped.leave_out_lines.Given as goal

abbrev pub invariant-loop-self : goal.invariant-loop-self
invariant-loop-self l = (l.start ≤ l.at) × (l.at ≤ length l.piece)
    × ((last : ℕ) × (l.self.state ≡ Inside last))
    × ((bytes : List ℕ) → IsStripped bytes l.initial.self.kept.items l.initial.self.state
    → IsStripped (bytes ++ take (l.at - l.start) (drop l.start l.piece)) l.self.kept.items l.self.state)

abbrev pub decreases-loop-self : goal.decreases-loop-self
decreases-loop-self l = length l.piece - l.at
