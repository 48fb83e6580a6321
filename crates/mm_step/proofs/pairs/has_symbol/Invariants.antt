use Rattle.std.proofs.Common.{ℕ, ◌<◌, ◌≡◌, get_or}
use Rattle.mm_step.specs.Stores.{numbers_in}
use Rattle.mm_step.proofs.pairs.has_symbol.Given as goal

abbrev pub invariant-loop-other : goal.invariant-loop-other
invariant-loop-other l = (k : ℕ) → k < l.other-index → get_or (numbers_in l.symbols) k 0 ≡ l.symbol.0 → ⊥
