use Rattle.std.proofs.Common.{arith}
use Rattle.mm_forms.specs.Mirror.CodeSmall.{IsRenumbered}
use Rattle.mm_proof.proofs.ProofNumbers.ZippedLists.{zip_by_index}
use Rattle.mm_forms.proofs.small.renumber.Goals as goal

pub returns : goal.returns
returns c =
    zip_by_index (IsRenumbered c.args.own c.args.places.now) c.args.codes.now c.loop-code.codes
    c.loop-code.auto.codes (λ k d less. c.loop-code.invariant.done k d (omega arith))
