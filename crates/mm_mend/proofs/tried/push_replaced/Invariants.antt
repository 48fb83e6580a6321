-- The changes so far are those by the bytes so far.
use Rattle.std.proofs.Common.{◌≡◌, ◌++◌, map, take}
use Rattle.mm_mend.specs.declared.change.Change.TheVariants.{Replaced}
use Rattle.mm_mend.proofs.tried.push_replaced.Given as goal

abbrev pub invariant-loop-byte : goal.invariant-loop-byte
invariant-loop-byte l =
    l.changes.items
    ≡ l.fn.changes.items ++ map (λ byte. Replaced l.at byte) (take l.byte-index l.bytes)
