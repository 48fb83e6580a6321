-- Where a proof breaks a rule that is judged over the whole of it (the Metamath book, sections 4.3
-- and 4.4.3, appendix B). That a fault is told there is this project's own.
use Rattle.std.specs.Prelude.{◌≡◌, ℕ, List, ◌∷◌, ◌++◌, length, take, slice_get, Some, ◌⊎◌}
use Rattle.std.specs.Prelude.{Contains}
use Rattle.mm_frame.specs.Sentence.{Sentence, IsLabelled}
use Rattle.mm_frame.specs.Frame.{AreMandatory}
use Rattle.mm_step.specs.Moves.{Move, mark}
use Rattle.mm_proof.specs.Strict.{MarkAssertions, EndWithAssertion}

-- a mandatory hypothesis of the statement has the label
abbrev pub IsMandatoryLabel : List Sentence → Sentence → (label : List ℕ) → Type 0
IsMandatoryLabel before s label =
    (hypotheses : List Sentence) × AreMandatory before s hypotheses
    × (h : Sentence) × Contains hypotheses h × IsLabelled label h

-- The label with an index in the list of a compressed proof is spare: it stands in the list before,
-- or it is that of a mandatory hypothesis.
abbrev pub IsSpareLabel : List Sentence → Sentence → (labels : List (List ℕ)) → (index : ℕ)
    → Type 0
IsSpareLabel before s labels index =
    (label : List ℕ) × (slice_get labels index ≡ Some label)
    × (Contains (take index labels) label ⊎ IsMandatoryLabel before s label)

-- the move with a number is the first mark that doesn't stand directly after a step by the label of
-- an assertion
abbrev pub IsLooseMark : List Sentence → List (Move (List ℕ)) → (number : ℕ) → Type 0
IsLooseMark before moves number =
    (earlier : List (Move (List ℕ))) × (later : List (Move (List ℕ)))
    × (moves ≡ earlier ++ mark ∷ later) × (number ≡ length earlier)
    × MarkAssertions before earlier × ¬ (EndWithAssertion before earlier)
