-- Numbers, each once, in rising order. This file mirrors the code, and is cited by private contracts
-- alone.
use Rattle.std.specs.Prelude.{ℕ, List, [], ◌∷◌, if◌then◌else◌, nat_lt}

-- rising numbers, with one more in its place where it isn't among them
abbrev pub put : ℕ → List ℕ → List ℕ
put n [] = n ∷ []
put n (m ∷ rest) =
    if nat_lt n m then (n ∷ m ∷ rest) else (m ∷ (if nat_lt m n then put n rest else rest))

-- the numbers of a list, each once, in rising order
abbrev pub ordered : List ℕ → List ℕ
ordered [] = []
ordered (n ∷ rest) = put n (ordered rest)
