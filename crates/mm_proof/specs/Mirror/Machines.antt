-- What a machine has made of moves, as the code keeps it: it mirrors the code.
use Rattle.std.specs.Prelude.{◌≡◌, ℕ, ◌+◌, ◌<◌, ◌^◌, List, [], ◌∷◌, ◌++◌, length, take}
use Rattle.std.specs.Prelude.{slice_get, Some}
use Rattle.mm_step.specs.Moves.{Move, name}

-- what a machine is after moves, since a first state
abbrev pub Running : Type 0 → Type 1
Running M = (first now : M) → List (Move ℕ) → Type 0

-- whether a move may come after these, since a first state
abbrev pub Allowing : Type 0 → Type 1
Allowing M = (first : M) → List (Move ℕ) → Move ℕ → Type 0

-- what is known where a machine stops with a fault, at a move after these
abbrev pub Stopping : Type 0 → Type 0 → Type 1
Stopping M F = (first : M) → List (Move ℕ) → Move ℕ → F → Type 0

-- The machine has run over moves since some first state, and the move may come next. A `usize`
-- counts them all.
pub record IsNext {M : Type 0} (has_run : Running M) (may_take : Allowing M) (now : M)
    (move : Move ℕ) : Type 0 where
  pub first : M
  pub prefix : List (Move ℕ)
  pub ran : has_run first now prefix
  pub allowed : may_take first prefix move
  pub few : length prefix + 1 < 2 ^ 64

-- the move takes the machine from the one state to the other
abbrev pub GoesOn : {M : Type 0} → Running M → Allowing M → (old new : M) → Move ℕ → Type 0
GoesOn {M} has_run may_take old new move =
    (first : M) (prefix : List (Move ℕ)) → may_take first prefix move → has_run first old prefix
    → has_run first new (prefix ++ move ∷ [])

-- the machine stops with the fault at the move
abbrev pub StopsMove : {M F : Type 0} → Running M → Allowing M → Stopping M F → (old : M)
    → Move ℕ → F → Type 0
StopsMove {M} {F} has_run may_take stops old move fault =
    (first : M) (prefix : List (Move ℕ)) → may_take first prefix move → has_run first old prefix
    → stops first prefix move fault

-- A step by the entry at an index may come next, which is the number of a label.
pub record IsNextStep {M : Type 0} (entries : M → List ℕ) (has_run : Running M)
    (may_take : Allowing M) (now : M) (index : ℕ) : Type 0 where
  pub id : ℕ
  pub next : IsNext has_run may_take now (name id)
  pub there : slice_get (entries next.first) index ≡ Some id

-- the step by that entry takes the machine from the one state to the other
abbrev pub StepsOn : {M : Type 0} → (M → List ℕ) → Running M → Allowing M → (old new : M)
    → (index : ℕ) → Type 0
StepsOn {M} entries has_run may_take old new index =
    (first : M) (prefix : List (Move ℕ)) (id : ℕ) → slice_get (entries first) index ≡ Some id
    → may_take first prefix (name id) → has_run first old prefix
    → has_run first new (prefix ++ name id ∷ [])

-- the machine stops with the fault at the step by that entry
abbrev pub StopsStep : {M F : Type 0} → (M → List ℕ) → Running M → Allowing M → Stopping M F
    → (old : M) → (index : ℕ) → F → Type 0
StopsStep {M} {F} entries has_run may_take stops old index fault =
    (first : M) (prefix : List (Move ℕ)) (id : ℕ) → slice_get (entries first) index ≡ Some id
    → may_take first prefix (name id) → has_run first old prefix
    → stops first prefix (name id) fault

-- the machine has stopped with the fault at one of the moves
pub record HasStopped {M F : Type 0} (stops : Stopping M F) (first : M) (moves : List (Move ℕ))
    (fault : F) : Type 0 where
  pub index : ℕ
  pub move : Move ℕ
  pub there : slice_get moves index ≡ Some move
  pub known : stops first (take index moves) move fault
