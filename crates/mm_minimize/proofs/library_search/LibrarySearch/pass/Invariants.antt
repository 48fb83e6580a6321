-- The statements so far were passed, and none behind the end.
use Rattle.std.proofs.Common.{◌≡◌, ◌≤◌, max}
use Rattle.mm_minimize.proofs.library_search.LibrarySearch.pass.Given as goal

abbrev pub invariant-loop-number : goal.invariant-loop-number
invariant-loop-number l = record {
  passed : l.self.passed ≡ l.number;
  few : l.number ≤ max l.fn.self.passed l.fn.end.0;
}
