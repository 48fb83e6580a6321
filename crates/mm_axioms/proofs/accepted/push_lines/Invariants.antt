-- The lines so far are those of the numbers so far.
use Rattle.std.proofs.Common.{◌≡◌, ◌++◌, map, take}
use Rattle.mm_verdict.specs.Reply.{lines_of}
use Rattle.mm_rules.specs.Answer.{labels_at}
use Rattle.mm_rules.specs.Conclusion.{labels_in}
use Rattle.mm_axioms.proofs.accepted.push_lines.Given as goal

abbrev pub invariant-loop-number : goal.invariant-loop-number
invariant-loop-number l =
    l.out.items ≡ l.fn.out.items ++ lines_of (labels_at (labels_in l.book.statements)
    (map (λ id. id.0) (take l.number-index l.numbers)))
