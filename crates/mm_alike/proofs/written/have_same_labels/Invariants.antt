-- The labels so far are the same.
use Rattle.std.proofs.Common.{take}
use Rattle.std.specs.List.{AllZip}
use Rattle.mm_alike.specs.Mirror.Steps.{IsSameStep}
use Rattle.mm_alike.proofs.written.have_same_labels.Given as goal

abbrev pub invariant-loop-at : goal.invariant-loop-at
invariant-loop-at l =
    AllZip (λ h k. IsSameStep l.book.statements l.other.statements h.id.0 k.id.0)
    (take l.at l.hypotheses) (take l.at l.others)
