use Rattle.std.proofs.Common.{◌+◌, ◌≤◌, length}
use Rattle.mm_frame.specs.Active.{IsActive}
use Rattle.mm_frame.specs.Mirror.Layout.{statements_of}
use Rattle.mm_frame.specs.Mirror.Wide.{NoneFrom}
use Rattle.mm_frame.proofs.tables.Tables.active_wide.Given as goal

abbrev pub invariant-loop : goal.invariant-loop
invariant-loop l = record {
  within : l.left + l.counter ≤ length l.self.distinct.stated.wide;
  none : NoneFrom (λ w. IsActive (statements_of l.self) w.index)
      l.self.distinct.stated.wide l.left;
}
