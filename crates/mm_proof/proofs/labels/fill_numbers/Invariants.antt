use Rattle.std.proofs.Common.{take}
use Rattle.mm_step.specs.Plain.{ids_in, token_texts}
use Rattle.mm_proof.proofs.ProofTokens.ProofLabels.{SoFar}
use Rattle.mm_proof.proofs.labels.fill_numbers.Given as goal

abbrev pub invariant-loop-label : goal.invariant-loop-label
invariant-loop-label l =
    SoFar l.fn.book.statements l.fn.own.index l.idle (ids_in l.ids.items) (take l.label-index (token_texts l.labels))
