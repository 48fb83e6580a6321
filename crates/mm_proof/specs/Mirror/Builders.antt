-- What is built from the moves of a proof, as the code keeps it: it mirrors the code.
use Rattle.std.specs.Prelude.{◌≡◌, ℕ, List, length, take}
use Rattle.mm_step.specs.Moves.{Move}

-- these are the first ones of the moves
abbrev pub AreFirst : (prefix moves : List (Move ℕ)) → Type 0
AreFirst prefix moves = take (length prefix) moves ≡ prefix
