-- Those so far may be used.
use Rattle.std.proofs.Common.{ℕ, List, Contains, map, take}
use Rattle.mm_text.specs.Files.{PlainFile}
use Rattle.mm_frame.specs.declared.number.LabelId.{LabelId}
use Rattle.mm_minimize.specs.Remarks.{AreRemarks}
use Rattle.mm_with_lemmas.specs.Mirror.Using.{MayUseAt}
use Rattle.mm_with_lemmas.proofs.uses.may_newly_use_all.Given as goal

abbrev pub invariant-loop-id : goal.invariant-loop-id
invariant-loop-id l =
    (n : ℕ) → Contains (map (λ (i : LabelId). i.0) (take l.id-index l.used)) n
    → (files : List PlainFile) → AreRemarks files l.remarks → MayUseAt files l.theorem.0 n
