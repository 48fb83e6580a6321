-- Mandatory pairs in the order of the declarations of their variables. The number of a symbol says
-- how many others were declared before its first declaration.
use Rattle.std.specs.Prelude.{◌≡◌, ◌<◌, ℕ, List, map, slice_get, Some, ◌⊎◌}
use Rattle.std.specs.Prelude.{if◌then◌else◌, nat_lt}
use Rattle.std.specs.List.Sorted.{IsPermutation}
use Rattle.mm_frame.specs.FrameIndex.{IsSamePair}
use Rattle.mm_frame.specs.declared.distinct.DistinctPair.{DistinctPair}
use Rattle.mm_proof.specs.Asked.{StandInOrder}

-- the numbers of the variables of a pair
abbrev pub numbers_of : DistinctPair → ℕ × ℕ
numbers_of p = (p.variables.0.0, p.variables.1.0)

-- the pair in the other order
abbrev pub flipped : DistinctPair → DistinctPair
flipped p = record {
  variables = (p.variables.1, p.variables.0);
  indices = (p.indices.1, p.indices.0);
}

-- the pair with the variable first that was declared first
abbrev pub turned : DistinctPair → DistinctPair
turned p = if nat_lt p.variables.1.0 p.variables.0.0 then flipped p else p

-- no two of the pairs have the same variables
abbrev pub AreDifferent : List DistinctPair → Type 0
AreDifferent pairs =
    (i j : ℕ) (p q : ℕ × ℕ) → slice_get (map numbers_of pairs) i ≡ Some p
    → slice_get (map numbers_of pairs) j ≡ Some q → IsSamePair p q → i ≡ j

-- the first variable of the one was declared before that of the other; or they have it in common,
-- and the second one was
abbrev pub IsBefore : DistinctPair → DistinctPair → Type 0
IsBefore p q =
    (p.variables.0.0 < q.variables.0.0)
    ⊎ ((p.variables.0.0 ≡ q.variables.0.0) × (p.variables.1.0 < q.variables.1.0))

-- these are the pairs in order, each with the variable first that was declared first
pub record AreInOrder (pairs ordered : List DistinctPair) : Type 0 where
  pub same : IsPermutation (map turned pairs) ordered
  pub in_order : StandInOrder IsBefore ordered
