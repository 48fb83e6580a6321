-- What was written is a beginning of the bytes, and no call failed so far.
use Rattle.std.proofs.Common.{◌≡◌, ◌-◌, ◌≤◌, length, take}
use Rattle.std.specs.Io.KnownBytes.{Appends}
use Rattle.mm_text.specs.Device.{faults_of, inner_of}
use Rattle.mm_text.proofs.counted.Counted.write_all.Given as goal

abbrev pub invariant-loop-written : goal.invariant-loop-written
invariant-loop-written g l = (l.written ≤ length l.bytes)
    × Appends (g.W.Write.contents (inner_of l.initial.self)) (g.W.Write.contents (inner_of l.self)) (take l.written l.bytes)
    × (faults_of l.self ≡ faults_of l.initial.self)

abbrev pub decreases-loop-written : goal.decreases-loop-written
decreases-loop-written g l = length l.bytes - l.written
