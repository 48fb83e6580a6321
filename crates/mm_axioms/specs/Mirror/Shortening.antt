-- What the code of `minimize` knows on its way. This file mirrors the code, and is cited by private
-- contracts alone.
use Rattle.std.specs.Prelude.{◌≡◌, ℕ, List, Contains}
use Rattle.std.specs.Prelude.{◌⊎◌}
use Rattle.mm_frame.specs.Sentence.{Sentence}
use Rattle.mm_rules.specs.Conclusion.{ProofUses}
use Rattle.mm_rules.specs.Rests.{RestsOn}
use Rattle.mm_rules.specs.Mirror.Marks.{UsedIn, IsAxiomNumber}

-- ---- what a proof may use

-- the number is that of a `$a`, or of a `$p` with an incomplete proof
abbrev pub IsLoose : List Sentence → (incomplete : List ℕ) → ℕ → Type 0
IsLoose statements incomplete n = IsAxiomNumber statements n ⊎ Contains incomplete n

-- the assertion is that one, or rests on it
abbrev pub ReachesIn : List ProofUses → (used : ℕ) → ℕ → Type 0
ReachesIn uses used n = (used ≡ n) ⊎ RestsOn (UsedIn uses) used n

-- the theorem rests on each of these numbers that the assertion is or rests on
abbrev pub RestsNoFurther : List ProofUses → (numbers : List ℕ) → (theorem used : ℕ) → Type 0
RestsNoFurther uses numbers theorem used =
    (n : ℕ) → Contains numbers n → ReachesIn uses used n → RestsOn (UsedIn uses) theorem n

-- those on which an assertion rests are those on which the theorem rests
abbrev pub AreFounded : List Sentence → (incomplete : List ℕ) → List ProofUses
    → (theorem used : ℕ) → Type 0
AreFounded statements incomplete uses theorem used =
    (n : ℕ) → IsLoose statements incomplete n → ReachesIn uses used n
    → RestsOn (UsedIn uses) theorem n
