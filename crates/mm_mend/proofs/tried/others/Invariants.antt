-- Those of the bytes so far that aren't the one.
use Rattle.std.proofs.Common.{◌≡◌, take}
use Rattle.mm_mend.specs.Mend.{others}
use Rattle.mm_mend.proofs.tried.others.Given as goal

abbrev pub invariant-loop-byte : goal.invariant-loop-byte
invariant-loop-byte l = l.left.items ≡ others l.own (take l.byte-index l.bytes)
