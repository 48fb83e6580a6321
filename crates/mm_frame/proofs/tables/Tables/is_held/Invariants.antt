use Rattle.std.proofs.Common.{◌+◌, ◌≤◌, length}
use Rattle.mm_frame.specs.Mirror.Layout.{statements_of}
use Rattle.mm_frame.specs.Mirror.Wide.{HoldsPair, NoneFrom}
use Rattle.mm_frame.proofs.tables.Tables.is_held.Given as goal

abbrev pub invariant-loop : goal.invariant-loop
invariant-loop l = record {
  within : l.left + l.counter ≤ length l.self.distinct.stated.wide;
  none : NoneFrom (HoldsPair (statements_of l.self) l.at l.a.0 l.b.0)
      l.self.distinct.stated.wide l.left;
}
