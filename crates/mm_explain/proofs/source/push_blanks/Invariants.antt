-- The blanks below the bytes so far.
use Rattle.std.proofs.Common.{◌≡◌, ◌++◌, map, take}
use Rattle.mm_explain.specs.Source.{blank_below}
use Rattle.mm_explain.proofs.source.push_blanks.Given as goal

abbrev pub invariant-loop-byte : goal.invariant-loop-byte
invariant-loop-byte l =
    l.out.items ≡ l.fn.out.items ++ map blank_below (take l.byte-index l.bytes)
