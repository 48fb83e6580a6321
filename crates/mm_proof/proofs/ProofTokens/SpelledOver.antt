-- The word of a tree that is put over others.
use Rattle.std.proofs.Common.{◌≡◌, ℕ, List, [], ◌∷◌, ◌++◌}
use Rattle.std.proofs.Common.{sym, append_assoc}
use Rattle.mm_step.specs.Tree.{Trees, none, tree, spelling, beside}
use Rattle.mm_step.proofs.ProofSteps.Derivations.{spelling-beside}

-- ---- one move more

pub spelling_over : (rest below : Trees) (label : List ℕ) → spelling (beside rest (tree label below none)) ≡ spelling (beside rest below) ++ label ∷ []
spelling_over rest below label =
    simp spelling-beside (sym (append_assoc (spelling rest) (spelling below) (label ∷ [])))
