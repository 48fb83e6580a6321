-- The moves that the tokens of a proof say (the Metamath book, sections 4.1.4, 4.3, 4.4.3 and
-- 4.4.4, appendix B).
use Rattle.std.specs.Prelude.{◌≡◌, ℕ, ◌+◌, ◌==◌, List, [], ◌∷◌, ◌++◌, length, map, slice_get}
use Rattle.std.specs.Prelude.{Bool, true, Contains, Some, ◌⊎◌}
use Rattle.std.specs.List.{flat_map, list_any, AllZip}
use Rattle.mm_code.specs.declared.code.Code.{Code}
use Rattle.mm_code.specs.declared.code.Code.TheVariants.{Number, Tag}
use Rattle.mm_code.specs.Letters.{Letters}
use Rattle.mm_frame.specs.Sentence.{Sentence}
use Rattle.mm_frame.specs.Frame.{AreMandatory}
use Rattle.mm_step.specs.Moves.{Move, name, again, mark}

-- the byte is `?`
abbrev pub is_question : ℕ → Bool
is_question byte = byte == 63

-- a token holds a `?`
abbrev pub is_unknown : List ℕ → Bool
is_unknown token = list_any is_question token

-- some token holds a `?`: a step is unknown (the Metamath book, section 4.4.4)
abbrev pub is_incomplete : List (List ℕ) → Bool
is_incomplete tokens = list_any is_unknown tokens

abbrev pub IsIncomplete : List (List ℕ) → Type 0
IsIncomplete tokens = is_incomplete tokens ≡ true

-- `(` and `)`
abbrev pub opening_token : List ℕ
opening_token = 40 ∷ []

abbrev pub closing_token : List ℕ
closing_token = 41 ∷ []

-- the first token is `(`
abbrev pub BeginsList : List (List ℕ) → Type 0
BeginsList tokens = slice_get tokens 0 ≡ Some opening_token

-- a normal proof: the first token isn't `(`
abbrev pub IsNormal : List (List ℕ) → Type 0
IsNormal tokens = ¬ (BeginsList tokens)

-- a compressed proof: `(`, labels up to the first `)`, and letters, which white space cuts apart
pub record IsCompressed (tokens labels letters : List (List ℕ)) : Type 0 where
  pub whole : tokens ≡ opening_token ∷ (labels ++ closing_token ∷ letters)
  pub first : ¬ (Contains labels closing_token)

-- the labels of a proof: all tokens of a normal one, the list of a compressed one
abbrev pub AreLabels : List (List ℕ) → List (List ℕ) → Type 0
AreLabels tokens labels =
    (IsNormal tokens × (labels ≡ tokens))
    ⊎ ((letters : List (List ℕ)) × IsCompressed tokens labels letters)

-- the letters of a compressed proof, joined
abbrev pub AreLetters : List (List ℕ) → List ℕ → Type 0
AreLetters tokens text =
    (labels : List (List ℕ)) × (letters : List (List ℕ)) × IsCompressed tokens labels letters
    × (text ≡ flat_map (λ piece. piece) letters)

-- The code says the move, where numbers from 1 on stand for these labels in order, and those above
-- for tags.
abbrev pub Says : List (List ℕ) → Code → Move (List ℕ) → Type 0
Says labels (Number number) move =
    (index : ℕ) × (number ≡ index + 1)
    × (((label : List ℕ) × (slice_get labels index ≡ Some label) × (move ≡ name label))
    ⊎ ((tag : ℕ) × (index ≡ length labels + tag) × (move ≡ again tag)))
Says labels Tag move = move ≡ mark

-- The codes of a compressed proof of the statement say the moves: its mandatory hypotheses come
-- first, then the labels of the list.
pub record SaysCompressed (before : List Sentence) (s : Sentence) (tokens : List (List ℕ))
    (moves : List (Move (List ℕ))) : Type 0 where
  pub listed : List (List ℕ)
  pub letters : List (List ℕ)
  pub parts : IsCompressed tokens listed letters
  pub codes : List Code
  pub coded : Letters (flat_map (λ piece. piece) letters) codes
  pub hypotheses : List Sentence
  pub mandatory : AreMandatory before s hypotheses
  pub labels : List (List ℕ)
  pub labelled : map (λ h. h.label) hypotheses ≡ map Some labels
  pub each : AllZip (Says (labels ++ listed)) codes moves

-- the tokens of a proof of the statement say the moves
abbrev pub SayMoves : List Sentence → Sentence → List (List ℕ) → List (Move (List ℕ)) → Type 0
SayMoves before s tokens moves =
    (IsNormal tokens × (moves ≡ map name tokens)) ⊎ SaysCompressed before s tokens moves
