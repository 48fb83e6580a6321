-- That moves make a row of trees or one tree, and that two lists of moves make the same. Moves are
-- those of proofs (the Metamath book, sections 4.3 and 4.4.3, appendix B); what is the same is this
-- project's own.
use Rattle.std.specs.Prelude.{ℕ, List, []}
use Rattle.mm_frame.specs.Sentence.{Sentence}
use Rattle.mm_step.specs.Tree.{Trees, none, tree}
use Rattle.mm_step.specs.Moves.{Move, Makes}

-- the moves make this row of trees: a proof makes one tree, and a beginning of one some
pub record MakeRow (before : List Sentence) (moves : List (Move (List ℕ))) (row : Trees)
    : Type 0 where
  pub kept : List Trees
  pub made : Makes before moves none [] row kept

-- of the row of trees that the moves make this holds
abbrev pub OfRow : List Sentence → List (Move (List ℕ)) → (Trees → Type 0) → Type 0
OfRow before moves P = (row : Trees) → MakeRow before moves row → P row

-- the moves make this tree, and nothing beside it
pub record MakeTree (before : List Sentence) (moves : List (Move (List ℕ))) (label : List ℕ)
    (below : Trees) : Type 0 where
  pub kept : List Trees
  pub made : Makes before moves none [] (tree label below none) kept

-- the moves make one tree
abbrev pub MakeOneTree : List Sentence → List (Move (List ℕ)) → Type 0
MakeOneTree before moves = (label : List ℕ) × (below : Trees) × MakeTree before moves label below

-- both lists of moves make the same tree
abbrev pub MakeSameTree : List Sentence → List (Move (List ℕ)) → List (Move (List ℕ)) → Type 0
MakeSameTree before moves others =
    (label : List ℕ) × (below : Trees) × MakeTree before moves label below
    × MakeTree before others label below
