-- The lines so far are those of the numbers so far.
use Rattle.std.proofs.Common.{◌≡◌, ◌++◌, map, take}
use Rattle.mm_rules.specs.Answer.{labels_at}
use Rattle.mm_rules.specs.Conclusion.{labels_in}
use Rattle.mm_diff.specs.Diff.{letter_lines}
use Rattle.mm_diff.proofs.text.push_letter_lines.Given as goal

abbrev pub invariant-loop-number : goal.invariant-loop-number
invariant-loop-number l =
    l.out.items
    ≡ l.fn.out.items
    ++ letter_lines l.letter
    (labels_at (labels_in l.book.statements) (map (λ id. id.0) (take l.number-index l.numbers)))
