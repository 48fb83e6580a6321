-- The chain so far, which has come to its last number.
use Rattle.std.proofs.Common.{map}
use Rattle.mm_axioms.specs.Mirror.Chains.{size_at}
use Rattle.mm_axioms.proofs.ShortestChains.{IsWalked}
use Rattle.mm_axioms.proofs.chains.walk.Given as goal

abbrev pub invariant-loop-last : goal.invariant-loop-last
invariant-loop-last l =
    IsWalked l.kept l.fn.from.0 l.to.0 l.sizes (map (λ id. id.0) l.chain.items) l.last.0

abbrev pub decreases-loop-last : goal.decreases-loop-last
decreases-loop-last l = size_at l.sizes l.last.0
