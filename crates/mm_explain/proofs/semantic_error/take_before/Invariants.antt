-- So many statements were taken.
use Rattle.std.proofs.Common.{◌≡◌, map}
use Rattle.mm_text.specs.Files.{plain_file}
use Rattle.mm_verdict.specs.Mirror.Judged.{IsRead}
use Rattle.mm_explain.proofs.semantic_error.take_before.Given as goal

abbrev pub invariant-loop : goal.invariant-loop
invariant-loop l = record {
  read : IsRead (map plain_file l.files) l.progress l.statements;
  count : l.progress.count ≡ l.counter;
}
