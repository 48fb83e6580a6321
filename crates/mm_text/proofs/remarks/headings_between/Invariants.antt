use Rattle.std.proofs.Common.{◌≡◌, ◌-◌, ◌≤◌, drop}
use Rattle.mm_text.specs.Remarks.{headings}
use Rattle.mm_text.proofs.remarks.headings_between.Given as goal

-- the headings so far are counted
abbrev pub invariant-loop-at : goal.invariant-loop-at
invariant-loop-at l = record {
  few : l.count ≤ l.at - l.start;
  count : l.count ≡ headings (l.at - l.start) (drop l.start l.bytes);
}
