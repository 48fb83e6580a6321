use Rattle.std.proofs.Common.{◌≡◌, ◌↔◌, ◌<◌, ◌≤◌, ◌-◌, ℕ, List, length, take, slice_get, Some, Contains}
use Rattle.mm_frame.specs.Sentence.{sentence_in}
use Rattle.mm_frame.specs.Breaking.{SymbolBreaks}
use Rattle.mm_frame.specs.Mirror.Layout.{statements_of}
use Rattle.mm_frame.proofs.breaking.first_breaking.Given as goal

abbrev pub invariant-loop-index : goal.invariant-loop-index
invariant-loop-index l = record {
  seen : (x : List ℕ) → Contains l.seen.names x ↔ Contains (take l.index (sentence_in l.statement).symbols) x;
  few : length l.seen.names ≤ l.index;
  room : length l.statement.symbols.items - l.index ≤ l.seen.room;
  none : (i : ℕ) (x : List ℕ) → i < l.index → slice_get (sentence_in l.statement).symbols i ≡ Some x
      → ¬ (SymbolBreaks l.rule (statements_of l.tables) (sentence_in l.statement) i x);
}
