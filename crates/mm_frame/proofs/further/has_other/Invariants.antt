use Rattle.std.proofs.Common.{◌≡◌, ℕ, ◌<◌, Some, slice_get}
use Rattle.mm_frame.specs.declared.number.Sym.{Sym}
use Rattle.mm_frame.specs.Pieces.{IsNowhere, variables_of}
use Rattle.mm_frame.proofs.further.has_other.Given as goal

abbrev pub invariant-loop-symbol : goal.invariant-loop-symbol
invariant-loop-symbol l =
    (k : ℕ) (n : Sym) → k < l.symbol-index → slice_get l.symbols k ≡ Some n
    → ¬ (IsNowhere n.0 (variables_of l.hypotheses))
