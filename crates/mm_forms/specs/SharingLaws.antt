-- Laws of fully shared proofs, and of the steps of any proof of a tree: this project's own.
use Rattle.std.specs.Prelude.{◌≡◌, ℕ, ◌+◌, ◌≤◌, List, [], sum_by, Contains, ◌↔◌}
use Rattle.mm_code.specs.declared.code.Code.{Code}
use Rattle.mm_frame.specs.Sentence.{Sentence}
use Rattle.mm_frame.specs.Rules.{AllMeant}
use Rattle.mm_frame.specs.Form.{AllFormed}
use Rattle.mm_step.specs.Tree.{Trees, none, tree, TreesFit}
use Rattle.mm_forms.specs.BigSubtrees.{children, IsSubtree, AreBigSubtrees}
use Rattle.mm_forms.specs.Visits.{visits, trees_made}
use Rattle.mm_proof.specs.Sharing.{steps_of}
use Rattle.mm_forms.specs.Sharing.{PairMakes, IsPacked}

-- A tree has one fully shared proof at most.
abbrev pub OnePacked : Type 0
OnePacked =
    (before : List Sentence) (s : Sentence) (label : List ℕ) (below : Trees)
    (listed listed' : List (List ℕ)) (codes codes' : List Code) → AllMeant before
    → IsPacked before s (tree label below none) listed codes
    → IsPacked before s (tree label below none) listed' codes'
    → (listed ≡ listed') × (codes ≡ codes')

-- A tree that fits has one, after statements in form.
abbrev pub SomePacked : Type 0
SomePacked =
    (before : List Sentence) (s : Sentence) (label : List ℕ) (below : Trees) → AllFormed before
    → TreesFit before (tree label below none)
    → (listed : List (List ℕ)) × (codes : List Code)
    × IsPacked before s (tree label below none) listed codes

-- the trees that a pair's steps by labels make, in order
abbrev pub trees_of : (before : List Sentence) (s : Sentence) (trees : Trees)
    (listed : List (List ℕ)) (codes : List Code) → PairMakes before s trees listed codes
    → List Trees
trees_of before s trees listed codes p =
    trees_made (visits before p.moves none [] trees p.kept p.made)

-- A proof of a tree has one step, and one for each child of each tree that a step by a label makes;
-- and each subtree is among these trees.
abbrev pub StepsMakeChildren : Type 0
StepsMakeChildren =
    (before : List Sentence) (s : Sentence) (label : List ℕ) (below : Trees)
    (listed : List (List ℕ)) (codes : List Code)
    → (p : PairMakes before s (tree label below none) listed codes)
    → (steps_of codes
    ≡ 1 + sum_by children (trees_of before s (tree label below none) listed codes p))
    × ((t : Trees) → IsSubtree (tree label below none) t
    → Contains (trees_of before s (tree label below none) listed codes p) t)

-- The fully shared proof of a tree has one step, and one for each child of each subtree of two or
-- more nodes; and no proof of the tree has fewer steps.
abbrev pub FewestSteps : Type 0
FewestSteps =
    (before : List Sentence) (s : Sentence) (label : List ℕ) (below : Trees)
    (listed : List (List ℕ)) (codes : List Code)
    → IsPacked before s (tree label below none) listed codes
    → ((list : List Trees) × AreBigSubtrees (tree label below none) list)
    × ((list : List Trees) → AreBigSubtrees (tree label below none) list
    → steps_of codes ≡ 1 + sum_by children list)
    × ((listed' : List (List ℕ)) (codes' : List Code)
    → PairMakes before s (tree label below none) listed' codes'
    → steps_of codes ≤ steps_of codes')

-- Two trees are equal exactly if their fully shared proofs are.
abbrev pub ToldByPacked : Type 0
ToldByPacked =
    (before : List Sentence) (s : Sentence) (l m : List ℕ) (a b : Trees)
    (listed listed' : List (List ℕ)) (codes codes' : List Code) → AllMeant before
    → IsPacked before s (tree l a none) listed codes
    → IsPacked before s (tree m b none) listed' codes'
    → (tree l a none ≡ tree m b none) ↔ ((listed ≡ listed') × (codes ≡ codes'))
