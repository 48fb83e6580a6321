-- The expressions so far are those of the hypotheses so far that are essential.
use Rattle.std.proofs.Common.{◌≡◌, List, Some, map, slice_get, take}
use Rattle.mm_frame.specs.Numbers.{labelled_sentences}
use Rattle.mm_frame.specs.Sentence.{Sentence}
use Rattle.mm_find.specs.Plain.{expressions_in}
use Rattle.mm_find.proofs.Assertions.{stated_expressions}
use Rattle.mm_find.proofs.assertion.essential.Given as goal

abbrev pub invariant-loop-hypothesis : goal.invariant-loop-hypothesis
invariant-loop-hypothesis l =
    (stated : List Sentence)
    → map (slice_get (labelled_sentences l.book.statements)) (map (λ h. h.id.0) l.hypotheses)
    ≡ map Some stated
    → expressions_in l.expressions.items ≡ stated_expressions (take l.hypothesis-index stated)
