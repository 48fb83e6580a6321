use Rattle.std.proofs.Common.{◌≡◌, ◌-◌, ◌++◌, take, drop}
use Rattle.mm_text.specs.Remarks.{before_mark}
use Rattle.mm_text.proofs.remarks.before_mark.Given as goal

-- no mark stands in what was passed
abbrev pub invariant-loop-at : goal.invariant-loop-at
invariant-loop-at l =
    before_mark l.bytes ≡ take (l.at - 1) l.bytes ++ before_mark (drop (l.at - 1) l.bytes)
