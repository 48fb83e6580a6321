-- The names of symbols by their numbers.
use Rattle.std.proofs.Common.{ℕ, List, [], ◌∷◌}
use Rattle.std.proofs.Common.{refl}
use Rattle.mm_frame.specs.Sentence.{Sentence}
use Rattle.mm_frame.specs.Numbers.{AreNumbers}
use Rattle.mm_step.specs.Mirror.CodeVerify.{AreBelow, names_at}
use Rattle.mm_step.proofs.ByNumbers.NumberedSymbols.{number_of_name}

-- ==== the moves of a lister: their lines, by numbers

-- ---- numbers and names

-- the names of symbols by their numbers
pub numbers_named : (st : List Sentence) (ns : List ℕ) → AreBelow st ns → AreNumbers st ns (names_at st ns)
numbers_named st [] below = refl
numbers_named st (n ∷ ns) below =
    let here = number_of_name st n below.0 in
    let rest : AreNumbers st ns (names_at st ns) = numbers_named st ns below.1 in
    cc
