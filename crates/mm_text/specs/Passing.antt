-- What statements are handed to, one after the other, as they are read.
use Rattle.std.specs.Prelude.{◌<◌, length, List, [], ◌∷◌, ◌++◌}
use Rattle.mm_base.specs.Statement.{PlainStatement, HasForm}

-- what one is after these statements, since a first state
abbrev pub Passed : Type 0 → Type 1
Passed V = (first now : V) → List PlainStatement → Type 0

-- It has passed some statements, fewer than the greatest `usize`, and this one comes next.
pub record PassesNext {V : Type 0} (has_passed : Passed V) (now : V)
    (s : PlainStatement) : Type 0 where
  pub first : V
  pub passed : List PlainStatement
  pub so_far : has_passed first now passed
  pub few : length passed < 18446744073709551615
  pub formed : HasForm s

-- the statement takes it from the one state to the other, whatever it has passed
abbrev pub Passes : {V : Type 0} → Passed V → (old : V) → PlainStatement → (new : V) → Type 0
Passes {V} has_passed old s new =
    (first : V) (passed : List PlainStatement) → has_passed first old passed
    → has_passed first new (passed ++ s ∷ [])
