-- What the code of fully shared proofs knows on its way: it mirrors the code.
use Rattle.std.specs.Prelude.{◌≡◌, ℕ, List, [], ◌∷◌, ◌++◌}
use Rattle.std.specs.Prelude.{Contains, Bool, true, false}

-- the same, with whether it is put there
abbrev pub AddsNew : List ℕ → ℕ → Bool → List ℕ → Type 0
AddsNew old n false new = Contains old n × (new ≡ old)
AddsNew old n true new = ¬ (Contains old n) × (new ≡ old ++ n ∷ [])
