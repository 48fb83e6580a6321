-- The letters that stand for a step of a compressed proof (the Metamath book, section 4.4.3 and
-- appendix B). That they are told is this project's own.
use Rattle.std.specs.Prelude.{◌≡◌, ℕ, ◌+◌, ◌<◌, List, [], ◌∷◌, ◌++◌, length, count_by, slice_get, Some}
use Rattle.std.specs.Prelude.{Bool, true, false, ◌⊎◌}
use Rattle.std.specs.List.{flat_map, before_first}
use Rattle.mm_code.specs.declared.code.Code.{Code}
use Rattle.mm_code.specs.declared.code.Code.TheVariants.{Number, Tag}
use Rattle.mm_code.specs.Letters.{Letters, SpellsCodes}
use Rattle.mm_frame.specs.Sentence.{Sentence}
use Rattle.mm_step.specs.Moves.{Move, steps_in}
use Rattle.mm_proof.specs.Tokens.{IsNormal, IsCompressed, SayMoves}
use Rattle.mm_places.specs.declared.letters.StepLetters.{StepLetters}

-- the code is a number, which is that of a step, and no tag
abbrev pub is_number : Code → Bool
is_number (Number number) = true
is_number Tag = false

-- Among the codes of a proof the one with an index, from 0 on, is that of the step with a number,
-- from 1 on: so many numbers stand before it. The letters spell it and each tag right behind it.
pub record SpellStep (said : List Code) (number index : ℕ) (letters : List ℕ) : Type 0 where
  pub earlier : List Code
  pub value : ℕ
  pub later : List Code
  pub parts : said ≡ earlier ++ Number value ∷ later
  pub count : number ≡ count_by is_number earlier + 1
  pub stands : index ≡ length earlier
  pub spelled : SpellsCodes letters (Number value ∷ before_first is_number later)

-- The step with a number of the proof that the tokens say is the move with an index, and these are
-- its letters: of a compressed proof those of its code; of a normal one, where each move is a step,
-- none.
abbrev pub HasLetters : (tokens : List (List ℕ)) → (number index : ℕ) → (letters : List ℕ) → Type 0
HasLetters tokens number index letters =
    (IsNormal tokens × (number ≡ index + 1) × (index < length tokens) × (letters ≡ []))
    ⊎ ((labels : List (List ℕ)) × (pieces : List (List ℕ)) × IsCompressed tokens labels pieces
    × (said : List Code) × Letters (flat_map (λ piece. piece) pieces) said
    × SpellStep said number index letters)

-- These are the steps that the tokens say, in order, and none is left out: each with the index of its
-- move and its letters.
pub record AreStepLetters (tokens : List (List ℕ)) (steps : List StepLetters) : Type 0 where
  pub each : (n : ℕ) (step : StepLetters) → slice_get steps n ≡ Some step
      → HasLetters tokens (n + 1) step.index step.letters.items
  pub count : (before : List Sentence) (s : Sentence) (moves : List (Move (List ℕ)))
      → SayMoves before s tokens moves → length steps ≡ steps_in moves
