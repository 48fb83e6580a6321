-- Up to the statement that was read last, the theorems of the file are written.
use Rattle.std.proofs.Common.{◌≡◌, List, length}
use Rattle.mm_base.specs.Statement.{PlainStatement}
use Rattle.mm_minimize.specs.Mirror.AllShortening.{IsShortenedSoFar}
use Rattle.mm_verdict.specs.Mirror.Rereading.{IsReadTo}
use Rattle.mm_minimize.proofs.shorter_file.write_all.Given as goal

abbrev pub invariant-loop-reading : goal.invariant-loop-reading
invariant-loop-reading g l = record {
  taken : List PlainStatement;
  read : IsReadTo l.shortening.checked.now.files taken l.reading;
  written : IsShortenedSoFar l.shortening.checked.now l.wanted.duplicates taken l.file;
  home : l.file.number ≡ l.wanted.number;
  whole : g.S.Search.is_whole l.fn.search → g.S.Search.is_whole l.search;
}

abbrev pub decreases-loop-reading : goal.decreases-loop-reading
decreases-loop-reading g l = length l.reading.statements.statements
