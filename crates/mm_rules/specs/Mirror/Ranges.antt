-- Lists of numbers as ranges of one list, which holds them in any order, each once or more; said of
-- each list: its numbers, each once, in rising order. This file mirrors the code, and is cited by
-- the model and invariant of `Kept` alone.
use Rattle.std.specs.Prelude.{◌≡◌, ℕ, ◌≤◌, List, map, slice_get, slice_range, Some}
use Rattle.mm_frame.specs.declared.number.LabelId.{LabelId}
use Rattle.mm_step.specs.Plain.{ids_in}
use Rattle.mm_rules.specs.declared.kept.KeptProof.{KeptProof}
use Rattle.mm_rules.specs.Conclusion.{ProofUses}
use Rattle.mm_rules.specs.Mirror.Ordered.{ordered}

-- the number of one proof, and those of the assertions that it uses, each once, in order
abbrev pub uses_at : List LabelId → KeptProof → ProofUses
uses_at labels p =
    record { number = p.id.0; used = ordered (ids_in (slice_range labels p.start p.end)) }

-- what is kept of all
abbrev pub uses_in : List LabelId → List KeptProof → List ProofUses
uses_in labels proofs = map (uses_at labels) proofs

-- the proof has a range of what stands before an index
pub record IsRangeWithin (index : ℕ) (p : KeptProof) : Type 0 where
  pub order : p.start ≤ p.end
  pub within : p.end ≤ index

-- each of them has
abbrev pub AreRangesWithin : ℕ → List KeptProof → Type 0
AreRangesWithin index proofs =
    (i : ℕ) (p : KeptProof) → slice_get proofs i ≡ Some p → IsRangeWithin index p
