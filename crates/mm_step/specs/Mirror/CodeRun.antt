-- What the steps by labels do to the stack by numbers: it mirrors the code.
use Rattle.std.specs.Prelude.{◌≡◌, ℕ, ◌<◌, List, [], ◌∷◌, ◌++◌, take, slice_get, Some}
use Rattle.std.specs.Prelude.{Contains, ◌↔◌, ◌⊎◌, ◌≢◌, length, slice_index_or, Bool, false, IsTrue}
use Rattle.mm_frame.specs.Sentence.{Sentence}
use Rattle.mm_frame.specs.Numbers.{IsAssertionNumber}
use Rattle.mm_step.specs.declared.fault.ProofRule.{ProofRule}
use Rattle.mm_step.specs.declared.fault.ProofRule.TheVariants.{P13, P14}
use Rattle.mm_step.specs.Moves.{Move, name, again, mark, steps_in}
use Rattle.mm_step.specs.Proof.{IsWithin, Passed, FirstAtMove}
use Rattle.mm_step.specs.Steps.{IsNumberedMove, AreNumberedMoves}
use Rattle.mm_step.specs.Mirror.CodeSteps.{MayBeUsed}
use Rattle.mm_step.specs.Mirror.CodeVerify.{all_names_at, AreStackEntries}

-- the step by the label with a number carries passed moves on: from the one stack to the other
abbrev pub CarriesOn : (limit : ℕ) → List Sentence → (index id : ℕ) → (old new : List (List ℕ))
    → Type 0
CarriesOn limit statements index id old new =
    (label : List ℕ) (moves : List (Move (List ℕ))) (kept : List (List (List ℕ)))
    → IsNumberedMove statements (name id) (name label)
    → Passed (IsWithin limit) (take index statements) moves (all_names_at statements old) kept
    → Passed (IsWithin limit) (take index statements) (moves ++ name label ∷ [])
    (all_names_at statements new) kept

-- the step by the label with a number breaks this rule first, on this stack
abbrev pub StopsAt : (limit : ℕ) → List Sentence → (index id : ℕ) → List (List ℕ) → ProofRule
    → Type 0
StopsAt limit statements index id stack rule =
    (label : List ℕ) (kept : List (List (List ℕ)))
    → IsNumberedMove statements (name id) (name label)
    → FirstAtMove (IsWithin limit) rule (take index statements)
    (all_names_at statements stack) kept (name label)

-- what the move by number stands for may be made at the index
abbrev pub MayBeMade : List Sentence → ℕ → Move ℕ → Type 0
MayBeMade statements index (name id) = (label : List ℕ) × MayBeUsed statements index label id
MayBeMade statements index (again tag) = Unit {0}
MayBeMade statements index mark = Unit {0}

-- A prefix of the moves passed, in so many steps, whatever names it stands for, and left these
-- lists of the store.
pub record HasRun (limit : ℕ) (statements : List Sentence) (index : ℕ) (prefix : List (Move ℕ))
    (stack kept : List (List ℕ)) (steps : ℕ) : Type 0 where
  pub count : steps ≡ steps_in prefix
  pub passed :
      (moves : List (Move (List ℕ))) → AreNumberedMoves statements prefix moves
      → Passed (IsWithin limit) (take index statements) moves
      (all_names_at statements stack) (all_names_at statements kept)
  pub entries : AreStackEntries statements (take index statements) stack
  pub kept_entries : AreStackEntries statements (take index statements) kept

-- those of these labels are marked that the moves name
pub record AreMarked (entries : List ℕ) (moves : List (Move ℕ)) (marks : List Bool) : Type 0 where
  pub named : (index : ℕ) → IsTrue (slice_index_or marks index false)
      → (i : ℕ) × (id : ℕ) × (slice_get entries index ≡ Some id)
      × (slice_get moves i ≡ Some (name id))
  pub marked : (i id : ℕ) → slice_get moves i ≡ Some (name id)
      → (index : ℕ) × (slice_get entries index ≡ Some id)
      × IsTrue (slice_index_or marks index false)

-- one of the moves names the assertion with this number
abbrev pub IsNamedByMove : List Sentence → List (Move ℕ) → ℕ → Type 0
IsNamedByMove statements moves id =
    ((i : ℕ) × (slice_get moves i ≡ Some (name id))) × IsAssertionNumber statements id

-- these are the numbers of the assertions that the moves name, in any order, each once or more
abbrev pub AreNamedNumbers : List Sentence → List (Move ℕ) → List ℕ → Type 0
AreNamedNumbers statements moves ids =
    (id : ℕ) → Contains ids id ↔ IsNamedByMove statements moves id

-- each of the numbers is greater than those before it
abbrev pub DoRise : List ℕ → Type 0
DoRise ids =
    (i j a b : ℕ) → i < j → slice_get ids i ≡ Some a → slice_get ids j ≡ Some b → a < b

-- what is on the stack at the end breaks this rule, where the statement's expression is the second
abbrev pub EndsWrong : ProofRule → List (List ℕ) → List ℕ → Type 0
EndsWrong rule stack expression =
    ((rule ≡ P13) × (length stack ≢ 1))
    ⊎ ((rule ≡ P14) × (e : List ℕ) × (stack ≡ e ∷ []) × (e ≢ expression))
