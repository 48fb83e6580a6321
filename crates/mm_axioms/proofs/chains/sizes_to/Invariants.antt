-- The proofs before this index were passed.
use Rattle.mm_axioms.proofs.ShortestChains.{IsSizing}
use Rattle.mm_axioms.proofs.chains.sizes_to.Given as goal

abbrev pub invariant-loop-at : goal.invariant-loop-at
invariant-loop-at l = IsSizing l.kept l.to.0 l.at l.sizes.items
