use Rattle.std.proofs.Common.{◌≡◌, ◌<◌, ◌≤◌, ℕ, get_or}
use Rattle.mm_frame.specs.declared.number.Sym.{Sym}
use Rattle.mm_step.specs.Mirror.CodeAsked.{IsTurned}
use Rattle.mm_distinct.proofs.asked.turn_all.Given as goal

abbrev pub invariant-loop-pair : goal.invariant-loop-pair
invariant-loop-pair l = record {
  done : (k : ℕ) (d : Sym × Sym) → k < l.pair-index
      → IsTurned (get_or l.fn.pairs k d) (get_or l.pairs k d);
  left : (k : ℕ) (d : Sym × Sym) → l.pair-index ≤ k → get_or l.pairs k d ≡ get_or l.fn.pairs k d;
}
