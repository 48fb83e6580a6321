-- Those so far use only what they may use, and no mark has the next stamp.
use Rattle.std.proofs.Common.{◌≡◌, ◌<◌, ◌+◌, ℕ, Some, slice_get}
use Rattle.mm_rules.specs.Conclusion.{ProofUses}
use Rattle.mm_with_lemmas.specs.Mirror.Using.{AreBelow, IsProofHeeded}
use Rattle.mm_with_lemmas.proofs.uses.are_proofs_heeded.Given as goal

abbrev pub invariant-loop-at : goal.invariant-loop-at
invariant-loop-at l = record {
  below : AreBelow (l.at + 1) l.marks;
  heeded : (i : ℕ) (u : ProofUses) → i < l.at → slice_get l.fn.new.uses i ≡ Some u
      → IsProofHeeded l.fn.old l.fn.new u;
}
