use Rattle.std.proofs.Common.{◌≡◌, map, take}
use Rattle.mm_frame.specs.Pieces.{variables_of, HaveIndices}
use Rattle.mm_frame.proofs.distinct.find_indices.Given as goal

abbrev pub invariant-loop-pair : goal.invariant-loop-pair
invariant-loop-pair l = record {
  variables : map (λ pair. pair.variables) l.indexed.items ≡ take l.pair-index l.pairs;
  indices : HaveIndices (variables_of l.hypotheses) l.indexed.items;
}
