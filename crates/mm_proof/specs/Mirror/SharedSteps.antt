-- Steps that make trees and share those of some kind, without the marks, as the code makes them
-- before it packs them. This file mirrors the code, and is cited by mirrors alone.
use Rattle.std.specs.Prelude.{◌≡◌, List, [], ◌∷◌, ◌⊎◌}

-- x is one of the list
abbrev pub In : {X : Type 0} → List X → X → Type 0
In [] x = ⊥
In (y ∷ ys) x = (y ≡ x) ⊎ In ys x
