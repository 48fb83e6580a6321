use Rattle.std.proofs.Common.{ℕ, ◌<◌, get_or}
use Rattle.mm_step.specs.Stores.{numbers_in}
use Rattle.mm_step.specs.Mirror.CodeVerify.{IsDisjointFromEach}
use Rattle.mm_step.proofs.pairs.are_disjoint.Given as goal

abbrev pub invariant-loop-symbol : goal.invariant-loop-symbol
invariant-loop-symbol l = (k : ℕ) → k < l.symbol-index → IsDisjointFromEach l.fn.book.statements l.fn.own.index (numbers_in l.f) (get_or (numbers_in l.e) k 0)
