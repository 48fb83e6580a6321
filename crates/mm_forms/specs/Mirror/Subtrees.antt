-- Numbers of rows of trees, as the code keeps them: it mirrors the code.
use Rattle.std.specs.Prelude.{◌≡◌, ℕ, ◌+◌, List, [], ◌∷◌, slice_get, Some}
use Rattle.std.specs.List.{AllZip}
use Rattle.mm_frame.specs.Sentence.{Sentence}
use Rattle.mm_step.specs.Tree.{Trees, none, tree}
use Rattle.mm_forms.specs.Spelled.{IsNumberOfLabel}
use Rattle.mm_forms.specs.declared.subtrees.Subtree.{Subtree}
use Rattle.mm_forms.specs.declared.subtrees.Row.{Row}

-- no row stands in the table twice
abbrev pub AreOnce : List Row → Type 0
AreOnce rows = (i j : ℕ) (row : Row) → slice_get rows i ≡ Some row → slice_get rows j ≡ Some row → i ≡ j

-- the number is that of a row of the table
pub record IsNumberOfRow (rows : List Row) (number : ℕ) (row : Row) : Type 0 where
  pub index : ℕ
  pub next : number ≡ index + 1
  pub there : slice_get rows index ≡ Some row

-- each row of the first table has its number in the second
abbrev pub KeepNumbers : List Row → List Row → Type 0
KeepNumbers old new = (index : ℕ) (row : Row) → slice_get old index ≡ Some row → slice_get new index ≡ Some row

-- the number stands for the trees side by side: it is 0 where there is none; else it is that of a
-- row of the table, with the label of the first of them, and with numbers that stand for the trees
-- below it and for those to its right
abbrev pub StandsFor : List Sentence → List Row → ℕ → Trees → Type 0
StandsFor statements rows number none = number ≡ 0
StandsFor statements rows number (tree label below right) =
    (row : Row) × IsNumberOfRow rows number row × IsNumberOfLabel statements row.first.label label
    × StandsFor statements rows row.first.below below × StandsFor statements rows row.right right

-- the subtree is the tree with this label and these trees below
pub record IsTreeOf (statements : List Sentence) (rows : List Row) (t : Subtree) (label : List ℕ)
    (below : Trees) : Type 0 where
  pub named : IsNumberOfLabel statements t.label label
  pub stands : StandsFor statements rows t.below below

-- the subtree has two nodes: the row below it is this leaf alone
pub record IsOverLeaf (rows : List Row) (t leaf : Subtree) : Type 0 where
  pub row : Row
  pub numbered : IsNumberOfRow rows t.below row
  pub first : row.first ≡ leaf
  pub bare : leaf.below ≡ 0
  pub alone : row.right ≡ 0

-- the subtrees are these trees side by side
abbrev pub AreTreesOf : List Sentence → List Row → List Subtree → Trees → Type 0
AreTreesOf statements rows [] none = Unit {0}
AreTreesOf statements rows [] (tree label below right) = ⊥
AreTreesOf statements rows (t ∷ ts) none = ⊥
AreTreesOf statements rows (t ∷ ts) (tree label below right) =
    IsTreeOf statements rows t label below × AreTreesOf statements rows ts right

-- the subtree is the tree
abbrev pub IsSubtreeOf : List Sentence → List Row → Subtree → Trees → Type 0
IsSubtreeOf statements rows t u = AreTreesOf statements rows (t ∷ []) u

-- The table has the rows that it had at first, and the subtrees are the trees of the row and those
-- that are kept.
pub record AreSubtreesOf (first rows : List Row) (statements : List Sentence)
    (stack : List Subtree) (row : Trees) (shelf : List Subtree) (kept : List Trees) : Type 0 where
  pub keep : KeepNumbers first rows
  pub once : AreOnce rows
  pub stands : AreTreesOf statements rows stack row
  pub shelved : AllZip (IsSubtreeOf statements rows) shelf kept
