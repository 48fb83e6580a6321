-- How the code decides shapes: with a mark for each beginning of an expression, from that of no
-- symbols to the whole. This file mirrors the code, and is cited by private contracts alone.
use Rattle.std.specs.Prelude.{◌≡◌, ℕ, List, [], ◌∷◌, ◌++◌, codes, Bool, ◌||◌, ◌&&◌}
use Rattle.std.specs.Bool.{Decides}
use Rattle.std.specs.Str.{bytes_eq}
use Rattle.mm_find.specs.Shape.{HaveShape}

-- whether a token stands for a symbol
abbrev pub stands_for : (token symbol : List ℕ) → Bool
stands_for token symbol = bytes_eq token (codes "$?") || bytes_eq token symbol

-- marks from each one on, if there was one before them or not
abbrev pub spread : (any : Bool) → (marks : List Bool) → List Bool
spread any [] = []
spread any (mark ∷ marks) = (any || mark) ∷ spread (any || mark) marks

-- each mark behind the symbol after it, where the token stands for that one
abbrev pub shifted : (token : List ℕ) → (symbols : List (List ℕ)) → (marks : List Bool) → List Bool
shifted token [] marks = []
shifted token (symbol ∷ symbols) [] = []
shifted token (symbol ∷ symbols) (mark ∷ marks) =
    (mark && stands_for token symbol) ∷ shifted token symbols marks

-- The marks tell of the symbols seen, and of each beginning with some of those left, whether they
-- have the shape.
abbrev pub AreMarks : (shape seen left : List (List ℕ)) → (marks : List Bool) → Type 0
AreMarks shape seen left [] = ⊥
AreMarks shape seen [] (mark ∷ marks) =
    Decides mark (HaveShape shape seen) × (marks ≡ [])
AreMarks shape seen (symbol ∷ left) (mark ∷ marks) =
    Decides mark (HaveShape shape seen) × AreMarks shape (seen ++ symbol ∷ []) left marks
