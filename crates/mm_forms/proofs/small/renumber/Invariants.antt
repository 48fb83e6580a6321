use Rattle.std.proofs.Common.{◌≡◌, ◌<◌, ◌≤◌, ℕ, get_or}
use Rattle.mm_code.specs.declared.code.Code.{Code}
use Rattle.mm_forms.specs.Mirror.CodeSmall.{IsRenumbered}
use Rattle.mm_forms.proofs.small.renumber.Given as goal

abbrev pub invariant-loop-code : goal.invariant-loop-code
invariant-loop-code l = record {
  done : (k : ℕ) (d : Code) → k < l.code-index
      → IsRenumbered l.own l.places (get_or l.fn.codes k d) (get_or l.codes k d);
  left : (k : ℕ) (d : Code) → l.code-index ≤ k → get_or l.codes k d ≡ get_or l.fn.codes k d;
}
