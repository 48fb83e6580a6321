-- The word of a proof's moves: its labels, with the word of a kept tree in place of each tag (the
-- Metamath book, sections 4.1.4, 4.3 and 4.4.3, appendix B). Nothing of the definitions of what is
-- proved rests on it: laws say how they are tied to it.
use Rattle.std.specs.Prelude.{◌≡◌, ℕ, List, [], ◌∷◌, ◌++◌, slice_get, Some}
use Rattle.mm_frame.specs.Sentence.{Sentence}
use Rattle.mm_step.specs.Tree.{Trees, none, tree, spelling, TreesFit}
use Rattle.mm_step.specs.Moves.{Move, name, again, mark}

-- The move makes the second labels and kept words out of the first. A label goes to the labels'
-- end, and so does the word of a tag; a mark keeps an ending of the labels that spells one tree
-- that fits.
abbrev pub ExpandsOne : List Sentence → Move (List ℕ) → (labels : List (List ℕ))
    → (words : List (List (List ℕ))) → (labels' : List (List ℕ)) → (words' : List (List (List ℕ)))
    → Type 0
ExpandsOne before (name label) labels words labels' words' =
    (labels' ≡ labels ++ label ∷ []) × (words' ≡ words)
ExpandsOne before (again tag) labels words labels' words' =
    (word : List (List ℕ)) × (slice_get words tag ≡ Some word) × (labels' ≡ labels ++ word)
    × (words' ≡ words)
ExpandsOne before mark labels words labels' words' =
    (prefix : List (List ℕ)) × (label : List ℕ) × (below : Trees)
    × TreesFit before (tree label below none)
    × (labels ≡ prefix ++ spelling (tree label below none))
    × (labels' ≡ labels) × (words' ≡ words ++ spelling (tree label below none) ∷ [])

-- the moves do, one after the other
abbrev pub Expands : List Sentence → List (Move (List ℕ)) → (labels : List (List ℕ))
    → (words : List (List (List ℕ))) → (labels' : List (List ℕ)) → (words' : List (List (List ℕ)))
    → Type 0
Expands before [] labels words labels' words' = (labels' ≡ labels) × (words' ≡ words)
Expands before (move ∷ moves) labels words labels' words' =
    (next : List (List ℕ)) × (more : List (List (List ℕ)))
    × ExpandsOne before move labels words next more
    × Expands before moves next more labels' words'

-- the word of the moves
abbrev pub IsWord : List Sentence → List (Move (List ℕ)) → List (List ℕ) → Type 0
IsWord before moves word = (words : List (List (List ℕ))) × Expands before moves [] [] word words
