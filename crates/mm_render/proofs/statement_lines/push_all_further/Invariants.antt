-- The lines so far are those of the `$d` so far.
use Rattle.std.proofs.Common.{◌≡◌, ◌++◌, List, Some, map, slice_get, take}
use Rattle.std.specs.List.{flat_map}
use Rattle.mm_frame.specs.Sentence.{Sentence}
use Rattle.mm_verdict.specs.Stated.{further_line}
use Rattle.mm_render.proofs.statement_lines.push_all_further.Given as goal

abbrev pub invariant-loop-index : goal.invariant-loop-index
invariant-loop-index l =
    (further : List Sentence) → map (slice_get l.book.statements) l.indices ≡ map Some further
    → l.out.items ≡ l.fn.out.items ++ flat_map further_line (take l.index-index further)
