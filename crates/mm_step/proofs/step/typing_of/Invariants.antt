use Rattle.std.proofs.Common.{◌≡◌, ℕ, ◌<◌, IsTrue, List, Some, None, is_some, true, slice_get, drop}
use Rattle.std.specs.List.{AllByRecursion, slice_index_or}
use Rattle.mm_frame.specs.Sentence.{Sentence}
use Rattle.mm_frame.specs.FrameIndex.{HaveTypings}
use Rattle.mm_frame.specs.Pieces.{variables_of}
use Rattle.mm_step.specs.Plain.{label_ids}
use Rattle.mm_step.specs.Mirror.CodeVerify.{AreBelow, AreHypothesesOf, IsRightCode, all_names_at}
use Rattle.mm_step.proofs.step.typing_of.Given as goal

abbrev pub invariant-loop-index : goal.invariant-loop-index
invariant-loop-index g l =
    ((st : List Sentence) → HaveTypings st l.hypotheses → AllByRecursion (AreBelow st) (drop l.base (g.S.Store.stack l.store))
    → (hs : List Sentence) → AreHypothesesOf st (label_ids l.hypotheses) hs
    → (i : ℕ) (h : Sentence) (entry : List (List ℕ)) → i < l.index → slice_get hs i ≡ Some h
    → slice_get (all_names_at st (drop l.base (g.S.Store.stack l.store))) i ≡ Some entry → IsRightCode h entry)
    × (IsTrue l.floating → (k : ℕ) → k < l.index → is_some (slice_index_or (variables_of l.hypotheses) k None) ≡ true)
