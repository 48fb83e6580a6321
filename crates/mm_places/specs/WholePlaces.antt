-- Where a proof breaks a rule that is judged over the whole of it (the Metamath book, sections 4.3
-- and 4.4.3, appendix B). That a fault is told there is this project's own.
use Rattle.std.specs.Prelude.{◌≡◌, ℕ, ◌+◌, ◌<◌, List, ◌∷◌, ◌++◌, length, take, slice_get, Some, ◌⊎◌}
use Rattle.std.specs.Prelude.{All, Contains}
use Rattle.std.specs.List.{flat_map, AllByRecursion}
use Rattle.mm_code.specs.declared.code.Code.{Code}
use Rattle.mm_code.specs.Letters.{Letters, IsLetter, IsLeadingLetter, IsEndOrTag}
use Rattle.mm_frame.specs.Sentence.{Sentence, SomeSentence, IsHypothesis, IsLabelled}
use Rattle.mm_frame.specs.Active.{IsActive}
use Rattle.mm_step.specs.declared.fault.ProofRule.{ProofRule}
use Rattle.mm_step.specs.declared.fault.ProofRule.TheVariants.{P1, P2, P3, P4, P5, P15}
use Rattle.mm_step.specs.Moves.{Move}
use Rattle.mm_proof.specs.Tokens.{IsNormal, IsCompressed, SaysCompressed}
use Rattle.mm_places.specs.Places.{IsMovePlace}
use Rattle.mm_proof.specs.WholePlaces.{IsLooseMark, IsSpareLabel}

-- These are the labels of the tokens, and the first stands at a token: all tokens of a normal proof
-- are labels, and those of the list of a compressed one, which follow the `(`.
abbrev pub AreLabelsFrom : (tokens : List (List ℕ)) → (token : ℕ) → (labels : List (List ℕ))
    → Type 0
AreLabelsFrom tokens token labels =
    (IsNormal tokens × (token ≡ 0) × (labels ≡ tokens))
    ⊎ ((letters : List (List ℕ)) × IsCompressed tokens labels letters × (token ≡ 1))

-- the first label that is so stands at the token
pub record IsFirstLabel (Is : List ℕ → Type 0) (tokens : List (List ℕ)) (token : ℕ) : Type 0 where
  pub from : ℕ
  pub labels : List (List ℕ)
  pub are : AreLabelsFrom tokens from labels
  pub index : ℕ
  pub stands : token ≡ from + index
  pub label : List ℕ
  pub there : slice_get labels index ≡ Some label
  pub so : Is label
  pub first : (other : List ℕ) → Contains (take index labels) other → ¬ (Is other)

-- no earlier statement has the label
abbrev pub IsUnknownLabel : List Sentence → List ℕ → Type 0
IsUnknownLabel before label = ¬ (SomeSentence before (IsLabelled label))

-- a hypothesis that isn't active has the label
abbrev pub IsIdleLabel : List Sentence → List ℕ → Type 0
IsIdleLabel before label =
    (index : ℕ) × (h : Sentence) × (slice_get before index ≡ Some h) × IsLabelled label h
    × IsHypothesis h.kind × ¬ (IsActive before index)

-- A letter of a compressed proof stands at a byte of a token: these letters stand before it, and
-- these behind it.
pub record IsLetterAt (tokens : List (List ℕ)) (token byte : ℕ) (earlier : List ℕ) (letter : ℕ)
    (later : List ℕ) : Type 0 where
  pub labels : List (List ℕ)
  pub letters : List (List ℕ)
  pub parts : IsCompressed tokens labels letters
  pub piece : ℕ
  pub index : token ≡ length labels + 2 + piece
  pub text : List ℕ
  pub there : slice_get letters piece ≡ Some text
  pub within : byte < length text
  pub joined : flat_map (λ l. l) letters ≡ earlier ++ letter ∷ later
  pub passed : earlier ≡ flat_map (λ l. l) (take piece letters) ++ take byte text

-- such a label stands at the token
abbrev pub IsSpareAt : List Sentence → Sentence → (tokens : List (List ℕ)) → (token : ℕ) → Type 0
IsSpareAt before s tokens token =
    (labels : List (List ℕ)) × (letters : List (List ℕ)) × IsCompressed tokens labels letters
    × (index : ℕ) × (token ≡ index + 1) × IsSpareLabel before s labels index

-- The place where a compressed proof of the statement isn't strict: the first label that is spare;
-- where none is, the first `Z` that doesn't stand directly after the number of an assertion's label.
abbrev pub IsFormPlace : List Sentence → Sentence → (tokens : List (List ℕ)) → (token byte : ℕ)
    → Type 0
IsFormPlace before s tokens token byte =
    (IsSpareAt before s tokens token × (byte ≡ 0)
    × ((earlier : ℕ) → earlier < token → ¬ (IsSpareAt before s tokens earlier)))
    ⊎ (((any : ℕ) → ¬ (IsSpareAt before s tokens any))
    × (moves : List (Move (List ℕ))) × SaysCompressed before s tokens moves
    × (number : ℕ) × IsLooseMark before moves number × IsMovePlace tokens number token byte)

-- The proof of the statement, which breaks the rule over the whole of it, breaks it at a byte of a
-- token. P1: at the `(`. P2 and P3: at the first label that isn't that of an earlier statement, or
-- is that of a hypothesis that isn't active. P4: at the first byte that is no letter. P5: at the
-- first digit of the first number that isn't ended. P15: where it isn't strict.
abbrev pub IsWholePlace : (before : List Sentence) → Sentence → (tokens : List (List ℕ))
    → ProofRule → (token byte : ℕ) → Type 0
IsWholePlace before s tokens P1 token byte = (token ≡ 0) × (byte ≡ 0)
IsWholePlace before s tokens P2 token byte =
    IsFirstLabel (IsUnknownLabel before) tokens token × (byte ≡ 0)
IsWholePlace before s tokens P3 token byte =
    IsFirstLabel (IsIdleLabel before) tokens token × (byte ≡ 0)
IsWholePlace before s tokens P4 token byte =
    (earlier : List ℕ) × (letter : ℕ) × (later : List ℕ)
    × IsLetterAt tokens token byte earlier letter later
    × All IsLetter earlier × ¬ (IsLetter letter)
IsWholePlace before s tokens P5 token byte =
    (earlier : List ℕ) × (digit : ℕ) × (digits : List ℕ) × (later : List ℕ)
    × IsLetterAt tokens token byte earlier digit (digits ++ later)
    × (codes : List Code) × Letters earlier codes
    × AllByRecursion IsLeadingLetter (digit ∷ digits) × IsEndOrTag later
IsWholePlace before s tokens P15 token byte = IsFormPlace before s tokens token byte
IsWholePlace before s tokens rule token byte = ⊥
