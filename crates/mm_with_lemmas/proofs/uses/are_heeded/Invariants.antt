-- Those so far may be used.
use Rattle.std.proofs.Common.{ℕ, Contains, map, take}
use Rattle.mm_frame.specs.declared.number.LabelId.{LabelId}
use Rattle.mm_with_lemmas.specs.Mirror.Using.{IsUseHeeded}
use Rattle.mm_with_lemmas.proofs.uses.are_heeded.Given as goal

abbrev pub invariant-loop-id : goal.invariant-loop-id
invariant-loop-id l =
    (n : ℕ) → Contains (map (λ (i : LabelId). i.0) (take l.id-index l.used)) n
    → IsUseHeeded l.fn.old l.fn.new l.fn.theorem.0 n
