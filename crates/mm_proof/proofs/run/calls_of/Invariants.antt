use Rattle.std.proofs.Common.{ℕ, take}
use Rattle.std.specs.List.{AllZip}
use Rattle.mm_step.specs.Plain.{ids_in}
use Rattle.mm_step.specs.Mirror.CodeApply.{MayBeCalled}
use Rattle.mm_proof.proofs.run.calls_of.Given as goal

abbrev pub invariant-loop-id : goal.invariant-loop-id
invariant-loop-id l =
    (index : ℕ) → AllZip (MayBeCalled l.fn.book.statements index) (ids_in (take l.id-index l.entries)) l.calls.items
