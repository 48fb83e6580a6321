-- The first number of the size among those so far.
use Rattle.std.proofs.Common.{map, take}
use Rattle.mm_axioms.proofs.ShortestChains.{IsFirstOfSize}
use Rattle.mm_axioms.proofs.chains.first_of_size.Given as goal

abbrev pub invariant-loop-number : goal.invariant-loop-number
invariant-loop-number l = IsFirstOfSize l.sizes
    (map (λ id. id.0) (take l.number-index l.numbers)) l.size l.first
