use Rattle.std.proofs.Common.{ℕ, ◌<◌, ◌≡◌, List, Option, Some, drop, slice_get}
use Rattle.mm_frame.specs.Sentence.{Sentence}
use Rattle.mm_frame.specs.Pieces.{variables_of}
use Rattle.mm_step.specs.Plain.{label_ids}
use Rattle.mm_step.specs.Mirror.CodeVerify.{AreHypothesesOf, IsEqual, Replaces, all_names_at}
use Rattle.mm_step.proofs.step.are_equal.Given as goal

abbrev pub invariant-loop-index : goal.invariant-loop-index
invariant-loop-index g l = (g.S.Store.stack l.store ≡ g.S.Store.stack l.fn.store)
    × (g.S.Store.kept l.store ≡ g.S.Store.kept l.fn.store)
    × ((σ : List ℕ → Option (List (List ℕ))) → Replaces l.fn.book.statements σ (variables_of l.signature.hypotheses.now) (drop l.base (g.S.Store.stack l.fn.store))
    → (hs : List Sentence) → AreHypothesesOf l.fn.book.statements (label_ids l.signature.hypotheses.now) hs
    → (i : ℕ) (h : Sentence) (entry : List (List ℕ)) → i < l.index → slice_get hs i ≡ Some h
    → slice_get (all_names_at l.fn.book.statements (drop l.base (g.S.Store.stack l.fn.store))) i ≡ Some entry → IsEqual σ h entry)
