use Rattle.std.proofs.Common.{◌≡◌, length}
use Rattle.mm_frame.specs.declared.tables.Tables.{Tables}
use Rattle.mm_frame.specs.Mirror.Layout.{statements_of}
use Rattle.mm_frame.specs.Mirror.Patterned.{IsLonger, AreMandatoryOf, HaveFirstPatterns}
use Rattle.mm_frame.proofs.pattern.push_patterns.Given as goal

abbrev pub invariant-loop-i : goal.invariant-loop-i
invariant-loop-i l = record {
  longer : IsLonger l.fn.pieces.items l.pieces.items;
  count : length l.hypotheses.items ≡ length l.fn.hypotheses.items;
  patterned : (t : Tables) → AreMandatoryOf t l.log l.flat l.indices l.fn.hypotheses.items
      → HaveFirstPatterns (statements_of t) l.fn.hypotheses.items l.hypotheses.items l.pieces.items l.i;
}
