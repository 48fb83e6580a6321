-- Substitution (the Metamath book, section 4.1.4).
use Rattle.std.specs.Prelude.{ℕ, List, [], ◌∷◌, Option, unwrap_or, IsSome, ◌↔◌}
use Rattle.std.specs.List.{flat_map}

-- Symbols are told apart by their names. An expression is a list of symbols; the first is its type
-- code.
abbrev pub Symbol : Type 0
Symbol = List ℕ

abbrev pub Expression : Type 0
Expression = List (List ℕ)

-- what replaces each variable; nothing is said for the other symbols
abbrev pub Substitution : Type 0
Substitution = List ℕ → Option (List (List ℕ))

-- it replaces these symbols and no others
abbrev pub IsOn : (List ℕ → Type 0) → Substitution → Type 0
IsOn P σ = (x : List ℕ) → IsSome (σ x) ↔ P x

-- the expression with each variable replaced, all at once
abbrev pub instance_of : Substitution → List (List ℕ) → List (List ℕ)
instance_of σ expression = flat_map (λ x. unwrap_or (σ x) (x ∷ [])) expression
