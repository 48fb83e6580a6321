-- The labels so far are those of the numbers so far.
use Rattle.std.proofs.Common.{◌≡◌, ◌++◌, map, take}
use Rattle.mm_rules.specs.Answer.{labels_at}
use Rattle.mm_rules.specs.Conclusion.{labels_in}
use Rattle.mm_diff.specs.Mirror.Changes.{spaced_labels}
use Rattle.mm_diff.proofs.text.push_labels.Given as goal

abbrev pub invariant-loop-number : goal.invariant-loop-number
invariant-loop-number l =
    l.out.items
    ≡ l.fn.out.items
    ++ spaced_labels
    (labels_at (labels_in l.book.statements) (map (λ id. id.0) (take l.number-index l.numbers)))
