-- The letters so far say codes, but for the number that is begun, if one is.
use Rattle.std.proofs.Common.{take}
use Rattle.mm_places.specs.Mirror.CodeWhole.{IsBegun}
use Rattle.mm_places.proofs.whole_places.cut_index.Given as goal

abbrev pub invariant-loop-index : goal.invariant-loop-index
invariant-loop-index l = IsBegun (take l.index l.letters) l.begun
