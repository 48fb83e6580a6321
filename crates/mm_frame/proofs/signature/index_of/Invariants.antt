use Rattle.std.proofs.Common.{◌≡◌, ◌<◌, ℕ, None, false, slice_index_or}
use Rattle.mm_frame.specs.Pieces.{variables_of, is_of}
use Rattle.mm_frame.proofs.signature.index_of.Given as goal

abbrev pub invariant-loop-index : goal.invariant-loop-index
invariant-loop-index l = (k : ℕ) → k < l.index → is_of l.symbol.0 (slice_index_or (variables_of l.hypotheses) k None) ≡ false
