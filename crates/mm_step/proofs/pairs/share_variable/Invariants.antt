use Rattle.std.proofs.Common.{ℕ, ◌<◌, Contains, get_or}
use Rattle.mm_frame.specs.Active.{IsVariable}
use Rattle.mm_step.specs.Stores.{numbers_in}
use Rattle.mm_step.specs.Mirror.CodeVerify.{name_at}
use Rattle.mm_step.proofs.pairs.share_variable.Given as goal

abbrev pub invariant-loop-symbol : goal.invariant-loop-symbol
invariant-loop-symbol l =
    (k : ℕ) → k < l.symbol-index → IsVariable l.fn.book.statements (name_at l.fn.book.statements (get_or (numbers_in l.e) k 0)) → ¬ (Contains (numbers_in l.f) (get_or (numbers_in l.e) k 0))
