-- The moves of a proof, and the trees that they make (the Metamath book, sections 4.1.4, 4.3 and
-- 4.4.3, appendix B).
use Rattle.std.specs.Prelude.{◌≡◌, ℕ, List, [], ◌∷◌, ◌++◌, slice_get, count_by, Bool, true, false}
use Rattle.std.specs.Prelude.{Some}
use Rattle.mm_frame.specs.Sentence.{Sentence}
use Rattle.mm_step.specs.Tree.{Trees, none, tree, beside, MayStandOver}

-- A move: a step by a label; a step by a tag, which is the index of a kept tree; or a mark, a `Z`,
-- which is no step and keeps what the step before it made. X is what stands for labels: their
-- names, or their numbers.
pub data Move (X : Type 0) : Type 0 where
  name : (label : X) → Move X
  again : (tag : ℕ) → Move X
  mark : Move X

abbrev pub is_step : {X : Type 0} → Move X → Bool
is_step (name label) = true
is_step (again tag) = true
is_step mark = false

-- how many of the moves are steps
abbrev pub steps_in : {X : Type 0} → List (Move X) → ℕ
steps_in moves = count_by is_step moves

-- The move makes the second row of trees and of kept trees out of the first. A label takes the last
-- trees of the row, those that it may stand over, and its tree takes their place; a tag puts the
-- kept tree at its index at the row's end; a mark keeps the row's last tree.
abbrev pub MakesOne : List Sentence → Move (List ℕ) → (row : Trees) → (kept : List Trees)
    → (row' : Trees) → (kept' : List Trees) → Type 0
MakesOne before (name label) row kept row' kept' =
    (rest : Trees) × (below : Trees) × (row ≡ beside rest below) × MayStandOver before label below
    × (row' ≡ beside rest (tree label below none)) × (kept' ≡ kept)
MakesOne before (again tag) row kept row' kept' =
    (t : Trees) × (slice_get kept tag ≡ Some t) × (row' ≡ beside row t) × (kept' ≡ kept)
MakesOne before mark row kept row' kept' =
    (rest : Trees) × (label : List ℕ) × (below : Trees)
    × (row ≡ beside rest (tree label below none))
    × (row' ≡ row) × (kept' ≡ kept ++ tree label below none ∷ [])

-- the moves do, one after the other
abbrev pub Makes : List Sentence → List (Move (List ℕ)) → (row : Trees) → (kept : List Trees)
    → (row' : Trees) → (kept' : List Trees) → Type 0
Makes before [] row kept row' kept' = (row' ≡ row) × (kept' ≡ kept)
Makes before (move ∷ moves) row kept row' kept' =
    (next : Trees) × (more : List Trees) × MakesOne before move row kept next more
    × Makes before moves next more row' kept'
