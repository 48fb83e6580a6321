-- Those so far are.
use Rattle.std.proofs.Common.{ℕ, Contains, map, take}
use Rattle.mm_frame.specs.declared.number.LabelId.{LabelId}
use Rattle.mm_with_lemmas.specs.Mirror.Founding.{HasFormerAmong}
use Rattle.mm_with_lemmas.proofs.founded.are_formers_among.Given as goal

abbrev pub invariant-loop-id : goal.invariant-loop-id
invariant-loop-id l =
    (n : ℕ) → Contains (map (λ (i : LabelId). i.0) (take l.id-index l.ids)) n
    → HasFormerAmong l.formers (map (λ (i : LabelId). i.0) l.others) n
