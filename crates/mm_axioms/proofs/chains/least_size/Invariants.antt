-- The least size of the numbers so far.
use Rattle.std.proofs.Common.{map, take}
use Rattle.mm_axioms.proofs.ShortestChains.{IsLeastSize}
use Rattle.mm_axioms.proofs.chains.least_size.Given as goal

abbrev pub invariant-loop-number : goal.invariant-loop-number
invariant-loop-number l = IsLeastSize l.sizes
    (map (λ id. id.0) (take l.number-index l.numbers)) l.least
