-- How the patterns of an assertion and of its `$e` are made. This file mirrors the code, and is
-- cited by private contracts alone.
use Rattle.std.specs.Prelude.{◌≡◌, ℕ, ◌<◌, ◌≤◌, List, ◌++◌, length, map, slice_get, slice_range}
use Rattle.std.specs.Prelude.{Option, Some}
use Rattle.mm_frame.specs.declared.hypothesis.Hypothesis.{Hypothesis}
use Rattle.mm_frame.specs.declared.number.LabelId.{LabelId}
use Rattle.mm_frame.specs.declared.number.Sym.{Sym}
use Rattle.mm_frame.specs.declared.piece.Piece.{Piece}
use Rattle.mm_frame.specs.declared.signature.Signature.{Signature}
use Rattle.mm_frame.specs.declared.tables.Entry.{Entry}
use Rattle.mm_frame.specs.declared.part.Part.{Part}
use Rattle.mm_frame.specs.declared.tables.Tables.{Tables}
use Rattle.mm_frame.specs.Sentence.{Sentence}
use Rattle.mm_frame.specs.Pieces.{variables_of, ArePieces, AreItsPieces}
use Rattle.mm_frame.specs.Pieces.{HasPattern, HavePatterns, HaveIndices, IsNowhere, IsFirstAt}
use Rattle.mm_frame.specs.FrameIndex.{FrameIndex, AreHypotheses, HaveTypings, ArePairs}
use Rattle.mm_frame.specs.Mirror.Layout.{AreTables, statements_of}
use Rattle.mm_frame.specs.Mirror.Gathered.{AreIndices, AreThoseAt}

-- the new list begins with the old one
abbrev pub IsLonger : {X : Type 0} → List X → List X → Type 0
IsLonger {X} old new = (more : List X) × (new ≡ old ++ more)

-- for the number of each variable the index of its first `$f` is noted
abbrev pub AreNoted : List ℕ → List (Option ℕ) → Type 0
AreNoted indices variables =
    (n index : ℕ) → IsFirstAt n variables index → slice_get indices n ≡ Some index

-- the part of the pieces says the symbols with these numbers
pub record IsPatternAt (variables : List (Option ℕ)) (numbers : List ℕ) (pieces : List Piece)
    (part : Part) : Type 0 where
  pub ordered : part.start ≤ part.end
  pub within : part.end ≤ length pieces
  pub says : ArePieces variables numbers (slice_range pieces part.start part.end)

-- what a hypothesis is, but for where its pattern stands
abbrev pub told : Hypothesis → LabelId × Option (Sym × Sym)
told h = (h.id, h.typing)

-- the hypotheses are the same, but for where their patterns stand
abbrev pub AreSameButPatterns : List Hypothesis → List Hypothesis → Type 0
AreSameButPatterns old new = map told new ≡ map told old

-- these are the mandatory hypotheses of an assertion that is to be added to a book, at these
-- indices, and these are two lists of the book
pub record AreMandatoryOf (t : Tables) (log : List Entry) (flat : List Sym) (indices : List ℕ)
    (hypotheses : List Hypothesis) : Type 0 where
  pub tables : AreTables t
  pub log_is : t.log.items ≡ log
  pub flat_is : t.flat.items ≡ flat
  pub assertion : Sentence
  pub are_indices : AreIndices (statements_of t) assertion indices
  pub those : AreThoseAt (statements_of t) indices hypotheses

-- the first so many of the hypotheses have their patterns
pub record HaveFirstPatterns (statements : List Sentence) (old new : List Hypothesis)
    (pieces : List Piece) (count : ℕ) : Type 0 where
  pub same : AreSameButPatterns old new
  pub each : (i : ℕ) (h : Hypothesis) → i < count → slice_get new i ≡ Some h
      → HasPattern statements (variables_of old) pieces h

-- the hypotheses have their patterns, and a part of the pieces says the assertion's symbols, which
-- have these numbers
pub record ArePatterned (statements : List Sentence) (numbers : List ℕ) (old new : List Hypothesis)
    (pieces : List Piece) (conclusion : Part) : Type 0 where
  pub same : AreSameButPatterns old new
  pub concluded : IsPatternAt (variables_of new) numbers pieces conclusion
  pub patterned : HavePatterns statements (variables_of new) pieces new

-- each variable of these pairs has a `$f` among the hypotheses
abbrev pub AreAmong : List (Option ℕ) → List (Sym × Sym) → Type 0
AreAmong variables pairs =
    (i : ℕ) (pair : Sym × Sym) → slice_get pairs i ≡ Some pair
    → ¬ (IsNowhere pair.0.0 variables) × ¬ (IsNowhere pair.1.0 variables)

-- this is what a step by the assertion at an index in its book asks of it
pub record IsSignatureOf (frame : FrameIndex) (signature : Signature) : Type 0 where
  pub ids : AreHypotheses frame (map (λ h. h.id.0) signature.hypotheses.now)
  pub typed : HaveTypings frame.statements signature.hypotheses.now
  pub pairs : ArePairs frame
      (map (λ pair. (pair.variables.0.0, pair.variables.1.0)) signature.pairs.now)
  pub indices : HaveIndices (variables_of signature.hypotheses.now) signature.pairs.now
  pub conclusion : (s : Sentence) × (slice_get frame.statements frame.index ≡ Some s)
      × AreItsPieces frame.statements (variables_of signature.hypotheses.now) s signature.conclusion.now
  pub patterns : HavePatterns frame.statements (variables_of signature.hypotheses.now)
      signature.pieces.now signature.hypotheses.now
