-- The moves of a proof with numbers for its labels. The moves are those of the Metamath book,
-- sections 4.3 and 4.4.3 and appendix B; the numbers are this project's own.
use Rattle.std.specs.Prelude.{◌≡◌, ℕ, List, take, slice_get, Some, ◌⊎◌}
use Rattle.std.specs.List.{AllZip, AllByRecursion}
use Rattle.mm_base.specs.declared.statement.Kind.TheVariants.{Provable}
use Rattle.mm_frame.specs.Sentence.{Sentence, SomeSentence, IsHypothesis, IsAssertion, IsLabelled}
use Rattle.mm_frame.specs.Active.{SomeActive}
use Rattle.mm_frame.specs.Numbers.{labelled_sentences, IsNumbered}
use Rattle.mm_step.specs.Moves.{Move, name, again, mark}

-- the first move is the second, with its label's number
abbrev pub IsNumberedMove : List Sentence → Move ℕ → Move (List ℕ) → Type 0
IsNumberedMove statements (name id) move =
    (s : Sentence) × (label : List ℕ) × (slice_get (labelled_sentences statements) id ≡ Some s)
    × IsLabelled label s × (move ≡ name label)
IsNumberedMove statements (again tag) move = move ≡ again tag
IsNumberedMove statements mark move = move ≡ mark

-- each of the moves is
abbrev pub AreNumberedMoves : List Sentence → List (Move ℕ) → List (Move (List ℕ)) → Type 0
AreNumberedMoves statements numbered moves = AllZip (IsNumberedMove statements) numbered moves

-- the label may be used after the statements before: it is that of an active hypothesis, or of an
-- assertion
abbrev pub IsUsable : List Sentence → List ℕ → Type 0
IsUsable before label =
    SomeActive before (λ h. IsLabelled label h × IsHypothesis h.kind)
    ⊎ SomeSentence before (λ a. IsLabelled label a × IsAssertion a.kind)

abbrev pub IsUsableMove : List Sentence → Move (List ℕ) → Type 0
IsUsableMove before (name label) = IsUsable before label
IsUsableMove before (again tag) = Unit {0}
IsUsableMove before mark = Unit {0}

-- the number is that of a `$p`, the statement at the index
pub record IsProofNumber (statements : List Sentence) (id index : ℕ) (s : Sentence) : Type 0 where
  pub numbered : IsNumbered statements id index s
  pub provable : s.kind ≡ Provable

-- These are moves, by numbers, of a proof of the `$p` with this number: each label may be used at
-- its index.
pub record AreSteps (statements : List Sentence) (id : ℕ) (steps : List (Move ℕ)) : Type 0 where
  pub index : ℕ
  pub s : Sentence
  pub proof : IsProofNumber statements id index s
  pub moves : List (Move (List ℕ))
  pub numbered : AreNumberedMoves statements steps moves
  pub usable : AllByRecursion (IsUsableMove (take index statements)) moves
