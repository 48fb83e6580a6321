-- What is built from the moves of a proof, as the code keeps it: it mirrors the code.
use Rattle.std.specs.Prelude.{◌≡◌, ℕ, ◌+◌, ◌<◌, ◌≤◌, List, [], ◌∷◌, ◌++◌, length, take}
use Rattle.std.specs.Prelude.{slice_get, drop, Some}
use Rattle.std.specs.List.{AllByRecursion, AllZip}
use Rattle.mm_frame.specs.Form.{IsSound}
use Rattle.mm_frame.specs.Sentence.{Sentence}
use Rattle.mm_forms.specs.declared.builder.Forest.{Forest}
use Rattle.mm_step.specs.Tree.{Trees, none, tree, spelling, beside, roots}
use Rattle.mm_step.specs.Moves.{Move, Makes}
use Rattle.mm_forms.specs.OneTree.{MakeRow}
use Rattle.mm_step.specs.Steps.{AreNumberedMoves}
use Rattle.mm_step.specs.Mirror.CodeRun.{MayBeMade}
use Rattle.mm_proof.specs.Mirror.Builders.{AreFirst}

-- that items stand for the trees of a row, and others for the kept trees, after so many steps
abbrev pub Holding : Type 0 → Type 1
Holding X = (stack : List X) → Trees → (shelf : List X) → List Trees → (steps : ℕ) → Type 0

-- the item is that of the tree with such a label, over the trees whose items are these, the last
-- ones
abbrev pub MakesItem : {X : Type 0} → (old new : Holding X) → (List ℕ → Type 0)
    → (below : List X) → X → Type 0
MakesItem {X} old new IsLabel items item =
    (stack shelf : List X) (rest below : Trees) (kept : List Trees) (steps : ℕ) (label : List ℕ)
    → IsLabel label → roots below ≡ length items
    → old (stack ++ items) (beside rest below) shelf kept steps
    → new (stack ++ item ∷ []) (beside rest (tree label below none)) shelf kept (steps + 1)

-- the kept tree with this label and these trees below has the item
pub record IsKept {X : Type 0} (shelf : List X) (kept : List Trees) (item : X) (label : List ℕ)
    (below : Trees) : Type 0 where
  pub tag : ℕ
  pub item_there : slice_get shelf tag ≡ Some item
  pub tree_there : slice_get kept tag ≡ Some (tree label below none)

-- some kept tree does
pub record IsOnShelf {X : Type 0} (held : Holding X) (item : X) : Type 0 where
  pub stack : List X
  pub row : Trees
  pub shelf : List X
  pub kept : List Trees
  pub steps : ℕ
  pub label : List ℕ
  pub below : Trees
  pub holds : held stack row shelf kept steps
  pub has : IsKept shelf kept item label below

-- the second item is that of a kept tree, whose item is the first, at the row's end
abbrev pub RepeatsItem : {X : Type 0} → (old new : Holding X) → X → X → Type 0
RepeatsItem {X} old new item again =
    (stack shelf : List X) (row : Trees) (kept : List Trees) (steps : ℕ) (label : List ℕ)
    (below : Trees) → IsKept shelf kept item label below → old stack row shelf kept steps
    → new (stack ++ again ∷ []) (beside row (tree label below none)) shelf kept (steps + 1)

-- the last tree is kept, and its item with it
abbrev pub KeepsItem : {X : Type 0} → Holding X → Type 0
KeepsItem {X} held =
    (stack shelf : List X) (item : X) (rest : Trees) (kept : List Trees) (steps : ℕ)
    (label : List ℕ) (below : Trees)
    → held (stack ++ item ∷ []) (beside rest (tree label below none)) shelf kept steps
    → held (stack ++ item ∷ []) (beside rest (tree label below none)) (shelf ++ item ∷ [])
    (kept ++ tree label below none ∷ []) steps

-- one label more is too many
abbrev pub IsFull : {X : Type 0} → Holding X → (most : ℕ) → Type 0
IsFull {X} held most =
    (stack shelf : List X) (row : Trees) (kept : List Trees) (steps : ℕ)
    → held stack row shelf kept steps → most < length (spelling row) + 1

-- the labels of the kept tree with the item are too many
abbrev pub IsTooLong : {X : Type 0} → Holding X → X → (most : ℕ) → Type 0
IsTooLong {X} held item most =
    (stack shelf : List X) (row : Trees) (kept : List Trees) (steps : ℕ) (label : List ℕ)
    (below : Trees) → IsKept shelf kept item label below → held stack row shelf kept steps
    → most < length (spelling row) + length (spelling (tree label below none))

-- Moves, by numbers, each of which may be made at the index: they make this row of trees.
pub record MakeRowAt (statements : List Sentence) (moves : List (Move ℕ)) : Type 0 where
  pub index : ℕ
  pub names : List (Move (List ℕ))
  pub usable : AllByRecursion (MayBeMade statements index) moves
  pub numbered : AreNumberedMoves statements moves names
  pub row : Trees
  pub makes : MakeRow (take index statements) names row

-- the items are those of the trees of the row that the moves make
pub record AreBuilt {X : Type 0} (held : Holding X) (moves : List (Move (List ℕ))) (row : Trees)
    (items : List X) : Type 0 where
  pub shelf : List X
  pub kept : List Trees
  pub steps : ℕ
  pub deep : length items ≡ roots row
  pub few : steps ≤ length moves
  pub holds : held items row shelf kept steps

-- the item is that of the tree that the moves make
abbrev pub IsBuilt : {X : Type 0} → Holding X → List (Move (List ℕ)) → (t : Trees) → (item : X)
    → Type 0
IsBuilt held moves t item = AreBuilt held moves t (item ∷ [])

-- The items are those of the trees that the moves before an index made; the moves that are left
-- make the row out of them.
pub record AreItemsAt {X : Type 0} (held : Holding X) (statements : List Sentence)
    (moves : List (Move ℕ)) (m : MakeRowAt statements moves) (index : ℕ)
    (stack shelf : List X) : Type 0 where
  pub row : Trees
  pub kept : List Trees
  pub steps : ℕ
  pub holds : held stack row shelf kept steps
  pub deep : length stack ≡ roots row
  pub ones : AllZip (λ (x : X) (t : Trees). roots t ≡ 1) shelf kept
  pub few : steps ≤ index
  pub made : Makes (take m.index statements) (drop index m.names) row kept
      m.row m.makes.kept

-- The moves since the first state were built, with the same builder, book, entries and stack:
-- whatever moves they begin that make a row of trees, the items are those of the trees so far.
pub record HasBuilt {B X : Type 0} (holds : B → B → List Sentence → Holding X)
    (first now : Forest B X) (prefix : List (Move ℕ)) : Type 0 where
  pub same_builder : now.builder.ghost_name ≡ first.builder.ghost_name
  pub same_book : now.book ≡ first.book
  pub same_entries : now.entries ≡ first.entries
  pub same_stack : now.stack.ghost_name ≡ first.stack.ghost_name
  pub sound : IsSound first.book.now.statements
  pub keeps : (later : B) → KeepsItem (holds first.builder.now later first.book.now.statements)
  pub at : let statements = first.book.now.statements in
      (moves : List (Move ℕ)) (m : MakeRowAt statements moves) → AreFirst prefix moves
      → AreItemsAt (holds first.builder.now now.builder.now statements) statements moves m
      (length prefix) now.stack.now.items now.shelf.now.items

-- the move comes after these in moves that make a row of trees
abbrev pub MayGrow : List Sentence → List (Move ℕ) → Move ℕ → Type 0
MayGrow statements prefix move =
    (moves : List (Move ℕ)) × MakeRowAt statements moves × AreFirst (prefix ++ move ∷ []) moves

-- whatever row of trees moves make that begin so, it spells more labels than the most
abbrev pub AreTooMany : List Sentence → List (Move ℕ) → Move ℕ → (most : ℕ) → Type 0
AreTooMany statements prefix move most =
    (moves : List (Move ℕ)) (m : MakeRowAt statements moves)
    → AreFirst (prefix ++ move ∷ []) moves
    → most < length (spelling m.row)
