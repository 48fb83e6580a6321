-- What came shows what is kept of it, is at most `max`, and no call failed so far.
use Rattle.std.proofs.Common.{◌≡◌, ℕ, List, [], length, ◌-◌, ◌≤◌}
use Rattle.std.specs.Io.KnownBytes.{Consumes}
use Rattle.mm_text.specs.Device.{faults_of, inner_of}
use Rattle.mm_text.specs.Mirror.Stripped.{IsStripped, held}
use Rattle.mm_text.proofs.load.read_stripped.Given as goal

abbrev pub invariant-loop-more : goal.invariant-loop-more
invariant-loop-more g l = (l.count ≤ l.max)
    × ((came : List ℕ) × (length came ≡ l.count)
    × Consumes (g.S.Source.left (inner_of l.initial.reader)) (g.S.Source.left (inner_of l.reader)) came
    × IsStripped came l.stripped.kept.items l.stripped.state)
    × (l.count ≡ 0 → held l.stripped.state ≡ [])
    × (faults_of l.reader ≡ faults_of l.initial.reader)
    × (g.S.Source.may_fail (inner_of l.reader) → g.S.Source.may_fail (inner_of l.initial.reader))

-- each piece brings a byte at least
abbrev pub decreases-loop-more : goal.decreases-loop-more
decreases-loop-more g l = l.max - l.count
