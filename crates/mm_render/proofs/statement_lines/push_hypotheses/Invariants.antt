-- The lines so far are those of the hypotheses so far.
use Rattle.std.proofs.Common.{◌≡◌, ◌++◌, List, Some, map, slice_get, take}
use Rattle.std.specs.List.{flat_map}
use Rattle.mm_frame.specs.Sentence.{Sentence}
use Rattle.mm_frame.specs.Numbers.{labelled_sentences}
use Rattle.mm_verdict.specs.Stated.{statement_line}
use Rattle.mm_render.proofs.statement_lines.push_hypotheses.Given as goal

abbrev pub invariant-loop-hypothesis : goal.invariant-loop-hypothesis
invariant-loop-hypothesis l =
    (stated : List Sentence) → map (slice_get (labelled_sentences l.book.statements)) (map (λ h. h.id.0) l.hypotheses) ≡ map Some stated
    → l.out.items ≡ l.fn.out.items ++ flat_map statement_line (take l.hypothesis-index stated)
