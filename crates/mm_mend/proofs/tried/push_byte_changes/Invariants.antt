-- The changes so far are those at so many places.
use Rattle.std.proofs.Common.{◌≡◌, ◌++◌}
use Rattle.mm_mend.specs.Mend.{byte_changes}
use Rattle.mm_mend.proofs.tried.push_byte_changes.Given as goal

abbrev pub invariant-loop-back : goal.invariant-loop-back
invariant-loop-back l =
    l.changes.items ≡ l.fn.changes.items ++ byte_changes l.back l.reach l.text
