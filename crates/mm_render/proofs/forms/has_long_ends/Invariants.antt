-- No line has ended so far.
use Rattle.std.proofs.Common.{◌≡◌, drop}
use Rattle.mm_render.specs.Saved.{ends_long}
use Rattle.mm_render.proofs.forms.has_long_ends.Given as goal

abbrev pub invariant-loop-byte : goal.invariant-loop-byte
invariant-loop-byte l = ends_long 0 l.bytes ≡ ends_long l.before (drop l.byte-index l.bytes)
