-- Shapes of expressions. `$*` stands for any number of symbols, as in metamath-exe's `search`, but
-- is a token of its own. That `$?` stands for one symbol is this project's own.
use Rattle.std.specs.Prelude.{◌≡◌, ◌⊎◌, ℕ, List, [], ◌∷◌, ◌++◌, codes, Bool, true, false}

-- the token stands for this one symbol: `$?` for each, another for itself
abbrev pub StandsForOne : (token symbol : List ℕ) → Type 0
StandsForOne token symbol = (token ≡ codes "$?") ⊎ (token ≡ symbol)

-- The token stands for these symbols: `$*` for any, none too; another for one.
abbrev pub StandsFor : (token : List ℕ) → (symbols : List (List ℕ)) → Type 0
StandsFor token symbols =
    (token ≡ codes "$*")
    ⊎ ((symbol : List ℕ) × (symbols ≡ symbol ∷ []) × StandsForOne token symbol)

-- The symbols have the shape: they are what its tokens stand for, one after the other.
abbrev pub HaveShape : (shape symbols : List (List ℕ)) → Type 0
HaveShape [] symbols = symbols ≡ []
HaveShape (token ∷ shape) symbols =
    (own : List (List ℕ)) × (rest : List (List ℕ)) × (symbols ≡ own ++ rest)
    × StandsFor token own × HaveShape shape rest

-- The expression has the shape, or what stands behind its type code has it: a shape may leave out
-- any type code.
abbrev pub HasShape : (shape expression : List (List ℕ)) → Type 0
HasShape shape expression =
    HaveShape shape expression
    ⊎ ((code : List ℕ) × (rest : List (List ℕ)) × (expression ≡ code ∷ rest)
    × HaveShape shape rest)

-- the shape that a pattern of these tokens asks for: that of all symbols, or of some in a row
abbrev pub shape_of : (whole : Bool) → (tokens : List (List ℕ)) → List (List ℕ)
shape_of true tokens = tokens
shape_of false tokens = codes "$*" ∷ tokens ++ codes "$*" ∷ []
