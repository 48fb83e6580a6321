-- The subtrees of trees, their sizes and their children.
use Rattle.std.specs.Prelude.{◌≡◌, ℕ, ◌≤◌, List, length, slice_get, Contains, Some, ◌⊎◌, ◌↔◌}
use Rattle.mm_step.specs.Tree.{Trees, none, tree, spelling, roots}

-- how many nodes the trees have: one for each label
abbrev pub nodes : Trees → ℕ
nodes trees = length (spelling trees)

-- two or more nodes
abbrev pub IsBig : Trees → Type 0
IsBig trees = 2 ≤ nodes trees

-- how many children a tree has
abbrev pub children : Trees → ℕ
children none = 0
children (tree label below right) = roots below

-- one of the trees, or a tree below one of them
abbrev pub IsSubtree : Trees → Trees → Type 0
IsSubtree none t = ⊥
IsSubtree (tree label below right) t =
    (t ≡ tree label below none) ⊎ IsSubtree below t ⊎ IsSubtree right t

-- no tree stands twice in the list
abbrev pub StandOnce : List Trees → Type 0
StandOnce list =
    (i j : ℕ) (t : Trees) → slice_get list i ≡ Some t → slice_get list j ≡ Some t → i ≡ j

-- these are the subtrees of two or more nodes, each once
pub record AreBigSubtrees (trees : Trees) (list : List Trees) : Type 0 where
  pub each : (t : Trees) → Contains list t ↔ (IsSubtree trees t × IsBig t)
  pub once : StandOnce list
