-- Each label so far keeps its width.
use Rattle.std.proofs.Common.{ℕ, ◌<◌}
use Rattle.mm_alike.specs.Mirror.Steps.{KeepsWidth}
use Rattle.mm_alike.proofs.widths.keep_widths.Given as goal

abbrev pub invariant-loop-number : goal.invariant-loop-number
invariant-loop-number l =
    (n : ℕ) → n < l.number → KeepsWidth l.book.statements l.other.statements n
