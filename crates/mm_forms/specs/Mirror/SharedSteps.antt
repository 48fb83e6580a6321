-- Steps that make trees and share those of some kind, without the marks, as the code makes them
-- before it packs them. This file mirrors the code, and is cited by mirrors alone.
use Rattle.std.specs.Prelude.{◌≡◌, List, [], ◌∷◌, ◌++◌, ◌⊎◌}
use Rattle.mm_step.specs.Tree.{Trees, none, tree}
use Rattle.mm_forms.specs.Visits.{Visit, makes, repeats, keeps}
use Rattle.mm_proof.specs.Mirror.SharedSteps.{In}

-- the steps put these trees side by side
abbrev pub Covers : Trees → List Visit → Type 0
Covers none v = v ≡ []
Covers (tree label below right) v =
    (here : List Visit) × (later : List Visit) × (v ≡ here ++ later) × Covers right later
    × ((here ≡ repeats (tree label below none) ∷ [])
    ⊎ ((inner : List Visit) × (here ≡ inner ++ makes (tree label below none) ∷ [])
    × Covers below inner))

-- no step makes such a tree again, and each repeats such a one that was made before
abbrev pub Careful : (P : Trees → Type 0) → List Trees → List Visit → Type 0
Careful P made [] = Unit {0}
Careful P made (makes t ∷ v) = ¬ (P t × In made t) × Careful P (t ∷ made) v
Careful P made (repeats t ∷ v) = (P t × In made t) × Careful P made v
Careful P made (keeps t ∷ v) = Careful P made v

-- what is made before the steps or by them
abbrev pub after : List Trees → List Visit → List Trees
after made [] = made
after made (makes t ∷ v) = after (t ∷ made) v
after made (repeats t ∷ v) = after made v
after made (keeps t ∷ v) = after made v
