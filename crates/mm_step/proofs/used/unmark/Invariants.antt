use Rattle.std.proofs.Common.{◌≡◌, ℕ, length, get_or, false}
use Rattle.mm_step.proofs.used.unmark.Given as goal

abbrev pub invariant-loop : goal.invariant-loop
invariant-loop l = (length l.marks.items ≡ l.counter) × ((index : ℕ) → get_or l.marks.items index false ≡ false)
