-- What came is in `bytes`, at most `max` of it, and no call failed so far.
use Rattle.std.proofs.Common.{◌≡◌, ◌-◌, ◌≤◌, vec_len}
use Rattle.std.specs.Io.KnownBytes.{Consumes}
use Rattle.mm_text.specs.Device.{faults_of, inner_of}
use Rattle.mm_text.proofs.load.read_all.Given as goal

abbrev pub invariant-loop-bytes : goal.invariant-loop-bytes
invariant-loop-bytes g l = (vec_len l.bytes ≤ l.max)
    × Consumes (g.S.Source.left (inner_of l.initial.reader)) (g.S.Source.left (inner_of l.reader)) l.bytes.items
    × (faults_of l.reader ≡ faults_of l.initial.reader)
    × (g.S.Source.may_fail (inner_of l.reader) → g.S.Source.may_fail (inner_of l.initial.reader))

-- each piece brings a byte at least
abbrev pub decreases-loop-bytes : goal.decreases-loop-bytes
decreases-loop-bytes g l = l.max - vec_len l.bytes
