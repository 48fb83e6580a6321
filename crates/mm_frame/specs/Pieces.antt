-- Patterns: the symbols of an assertion and of its `$e`, as a step by the assertion takes them (the
-- Metamath book, section 4.1.4). A variable stands there as the index of its `$f` among the
-- mandatory hypotheses. Likewise each distinct pair has the indices of the `$f` of its variables.
use Rattle.std.specs.Prelude.{◌≡◌, ℕ, ◌<◌, ◌≤◌, ◌==◌, List, length, map, slice_get, slice_range}
use Rattle.std.specs.Prelude.{slice_index_or, Bool, true, false, Option, Some, None, option_map}
use Rattle.std.specs.List.{AllZip}
use Rattle.mm_frame.specs.declared.distinct.DistinctPair.{DistinctPair}
use Rattle.mm_frame.specs.declared.hypothesis.Hypothesis.{Hypothesis}
use Rattle.mm_frame.specs.declared.piece.Piece.{Piece}
use Rattle.mm_frame.specs.declared.piece.Piece.TheVariants.{Symbol, Value}
use Rattle.mm_frame.specs.Sentence.{Sentence}
use Rattle.mm_frame.specs.Numbers.{labelled_sentences, AreNumbers}
use Rattle.mm_frame.specs.FrameIndex.{FrameIndex, AreHypotheses, HaveTypings}

-- the number of a piece: that of its symbol, or its index
abbrev pub number_in : Piece → ℕ
number_in (Symbol symbol) = symbol.0
number_in (Value index) = index

-- a value replaces the piece
abbrev pub IsReplaced : Piece → Type 0
IsReplaced (Symbol symbol) = ⊥
IsReplaced (Value index) = Unit {0}

-- for each hypothesis the number of its variable, if it is a `$f`; and none for a `$e`
abbrev pub variables_of : List Hypothesis → List (Option ℕ)
variables_of hypotheses = map (λ h. option_map (λ typing. typing.1.0) h.typing) hypotheses

-- the variable of the `$f` is the symbol with the number
abbrev pub is_of : ℕ → Option ℕ → Bool
is_of n None = false
is_of n (Some m) = m == n

-- no `$f` is of the symbol
abbrev pub IsNowhere : ℕ → List (Option ℕ) → Type 0
IsNowhere n variables = (k : ℕ) → is_of n (slice_index_or variables k None) ≡ false

-- the `$f` at this index among the hypotheses is of the symbol, and none before it
pub record IsFirstAt (n : ℕ) (variables : List (Option ℕ)) (index : ℕ) : Type 0 where
  pub within : index < length variables
  pub is : is_of n (slice_index_or variables index None) ≡ true
  pub first : (k : ℕ) → k < index → is_of n (slice_index_or variables k None) ≡ false

-- The piece says the symbol with the number. A symbol that no mandatory `$f` is of is a constant,
-- since each variable of an assertion and of its `$e` has an active `$f` (M15).
abbrev pub IsPieceOf : List (Option ℕ) → ℕ → Piece → Type 0
IsPieceOf variables n (Symbol symbol) = (symbol.0 ≡ n) × IsNowhere n variables
IsPieceOf variables n (Value index) = IsFirstAt n variables index

-- the pieces say the symbols with these numbers
abbrev pub ArePieces : List (Option ℕ) → List ℕ → List Piece → Type 0
ArePieces variables numbers pieces = AllZip (IsPieceOf variables) numbers pieces

-- the pieces say the symbols of the statement
abbrev pub AreItsPieces : List Sentence → List (Option ℕ) → Sentence → List Piece → Type 0
AreItsPieces statements variables s pieces =
    (numbers : List ℕ) × AreNumbers statements numbers s.symbols
    × ArePieces variables numbers pieces

-- the part that the hypothesis names is one of the pieces; if it is a `$e`, it says its symbols
pub record HasPattern (statements : List Sentence) (variables : List (Option ℕ))
    (pieces : List Piece) (hypothesis : Hypothesis) : Type 0 where
  pub ordered : hypothesis.pattern.start ≤ hypothesis.pattern.end
  pub within : hypothesis.pattern.end ≤ length pieces
  pub says : hypothesis.typing ≡ None
      → (e : Sentence) × (slice_get (labelled_sentences statements) hypothesis.id.0 ≡ Some e)
      × AreItsPieces statements variables e
      (slice_range pieces hypothesis.pattern.start hypothesis.pattern.end)

-- each of these hypotheses has its pattern
abbrev pub HavePatterns : List Sentence → List (Option ℕ) → List Piece → List Hypothesis → Type 0
HavePatterns statements variables pieces hypotheses =
    (i : ℕ) (hypothesis : Hypothesis) → slice_get hypotheses i ≡ Some hypothesis
    → HasPattern statements variables pieces hypothesis

-- each of these hypotheses of the frame has its pattern in some one list of pieces, as in that of
-- the frame's signature
abbrev pub HaveMandatoryPatterns : FrameIndex → List Hypothesis → Type 0
HaveMandatoryPatterns frame hypotheses =
    (pieces : List Piece)
    × HavePatterns frame.statements (variables_of hypotheses) pieces hypotheses

-- with each variable of the pair stands the index, from 0, of its `$f` among the hypotheses
abbrev pub HasIndices : List (Option ℕ) → DistinctPair → Type 0
HasIndices variables pair =
    IsFirstAt pair.variables.0.0 variables pair.indices.0
    × IsFirstAt pair.variables.1.0 variables pair.indices.1

-- each of these pairs has the indices of its `$f`
abbrev pub HaveIndices : List (Option ℕ) → List DistinctPair → Type 0
HaveIndices variables pairs =
    (i : ℕ) (pair : DistinctPair) → slice_get pairs i ≡ Some pair → HasIndices variables pair

-- with each of these pairs stand the indices, from 0, of the `$f` of its two variables among the
-- mandatory hypotheses of the assertion; which pairs these are, `ArePairs` says
abbrev pub HaveMandatoryIndices : FrameIndex → List DistinctPair → Type 0
HaveMandatoryIndices frame pairs =
    (hypotheses : List Hypothesis) × AreHypotheses frame (map (λ h. h.id.0) hypotheses)
    × HaveTypings frame.statements hypotheses × HaveIndices (variables_of hypotheses) pairs
