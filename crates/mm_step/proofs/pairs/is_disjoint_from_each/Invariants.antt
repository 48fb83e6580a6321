use Rattle.std.proofs.Common.{ℕ, ◌<◌, get_or}
use Rattle.mm_step.specs.Stores.{numbers_in}
use Rattle.mm_step.specs.Mirror.CodeVerify.{IsDisjoint}
use Rattle.mm_step.proofs.pairs.is_disjoint_from_each.Given as goal

abbrev pub invariant-loop-symbol : goal.invariant-loop-symbol
invariant-loop-symbol l = (k : ℕ) → k < l.symbol-index → IsDisjoint l.fn.book.statements l.fn.own.index l.variable.0 (get_or (numbers_in l.f) k 0)
