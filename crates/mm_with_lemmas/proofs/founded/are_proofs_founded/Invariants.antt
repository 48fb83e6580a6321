-- Those so far are.
use Rattle.std.proofs.Common.{◌≡◌, ◌<◌, ℕ, Some, slice_get}
use Rattle.mm_rules.specs.Conclusion.{ProofUses}
use Rattle.mm_with_lemmas.specs.Mirror.Founding.{IsProofFounded}
use Rattle.mm_with_lemmas.proofs.founded.are_proofs_founded.Given as goal

abbrev pub invariant-loop-at : goal.invariant-loop-at
invariant-loop-at l =
    (i : ℕ) (u : ProofUses) → i < l.at → slice_get l.fn.new.uses i ≡ Some u
    → IsProofFounded l.fn.old l.fn.new u
