use Rattle.std.proofs.Common.{take}
use Rattle.std.specs.List.{AllZip}
use Rattle.mm_step.specs.Plain.{ids_in}
use Rattle.mm_proof.proofs.ProofTokens.ProofCodes.{SaysEntry}
use Rattle.mm_proof.proofs.parse.fill_distinct.Given as goal

abbrev pub invariant-loop-id : goal.invariant-loop-id
invariant-loop-id l = AllZip (SaysEntry (ids_in l.entries.items)) l.codes.items (ids_in (take l.id-index l.ids))
