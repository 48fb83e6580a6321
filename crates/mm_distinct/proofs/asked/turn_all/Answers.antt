use Rattle.std.proofs.Common.{arith}
use Rattle.mm_step.specs.Mirror.CodeAsked.{IsTurned}
use Rattle.mm_proof.proofs.ProofNumbers.ZippedLists.{zip_by_index}
use Rattle.mm_distinct.proofs.asked.turn_all.Goals as goal

pub returns : goal.returns
returns c =
    zip_by_index IsTurned c.args.pairs.now c.loop-pair.pairs c.loop-pair.auto.pairs
    (λ k d less. c.loop-pair.invariant.done k d (omega arith))
