-- What each move of a proof does with a tree (the Metamath book, sections 4.3 and 4.4.3,
-- appendix B).
use Rattle.std.specs.Prelude.{ℕ, List, [], ◌∷◌}
use Rattle.mm_frame.specs.Sentence.{Sentence}
use Rattle.mm_step.specs.Tree.{Trees, none, tree}
use Rattle.mm_step.specs.Moves.{Move, name, again, mark, MakesOne, Makes}

-- A step by a label makes a tree, a step by a tag repeats a kept one, and a mark keeps one.
pub data Visit : Type 0 where
  makes : (t : Trees) → Visit
  repeats : (t : Trees) → Visit
  keeps : (t : Trees) → Visit

-- what a move does
abbrev pub visit : (before : List Sentence) (move : Move (List ℕ)) (row : Trees)
    (kept : List Trees) (row' : Trees) (kept' : List Trees)
    → MakesOne before move row kept row' kept' → Visit
visit before (name label) row kept row' kept' made = makes (tree label made.1 none)
visit before (again tag) row kept row' kept' made = repeats made.0
visit before mark row kept row' kept' made = keeps (tree made.1 made.2 none)

-- what the moves do, one after the other
abbrev pub visits : (before : List Sentence) (moves : List (Move (List ℕ))) (row : Trees)
    (kept : List Trees) (row' : Trees) (kept' : List Trees)
    → Makes before moves row kept row' kept' → List Visit
visits before [] row kept row' kept' made = []
visits before (move ∷ moves) row kept row' kept' made =
    visit before move row kept made.0 made.1 made.2
    ∷ visits before moves made.0 made.1 row' kept' made.3

-- the trees that steps by labels make, in order
abbrev pub trees_made : List Visit → List Trees
trees_made [] = []
trees_made (makes t ∷ later) = t ∷ trees_made later
trees_made (repeats t ∷ later) = trees_made later
trees_made (keeps t ∷ later) = trees_made later
