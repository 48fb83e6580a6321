-- The set has what the codes so far name.
use Rattle.std.proofs.Common.{◌≡◌, ℕ, nat_eq, take}
use Rattle.indexmap.specs.IndexSet.{contains}
use Rattle.mm_proof.specs.Mirror.CodeSteps.{moves_of}
use Rattle.mm_explain.specs.Unused.{is_named}
use Rattle.mm_explain.proofs.unused.named_labels.Given as goal

abbrev pub invariant-loop-code : goal.invariant-loop-code
invariant-loop-code l =
    (id : ℕ) → contains nat_eq l.named id
    ≡ is_named nat_eq (moves_of l.entries (take l.code-index l.said)) id
