-- The labels so far are those of the hypotheses so far that are essential.
use Rattle.std.proofs.Common.{◌≡◌, List, Some, map, slice_get, take}
use Rattle.mm_code.specs.Layout.{texts}
use Rattle.mm_frame.specs.Numbers.{labelled_sentences}
use Rattle.mm_frame.specs.Sentence.{Sentence}
use Rattle.mm_groups.proofs.EssentialLabels.{stated_labels}
use Rattle.mm_groups.proofs.essentials.essential_labels.Given as goal

abbrev pub invariant-loop-hypothesis : goal.invariant-loop-hypothesis
invariant-loop-hypothesis l =
    (stated : List Sentence)
    → map (slice_get (labelled_sentences l.book.statements)) (map (λ h. h.id.0) l.hypotheses)
    ≡ map Some stated
    → map Some (texts l.labels.items) ≡ stated_labels (take l.hypothesis-index stated)
