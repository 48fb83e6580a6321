-- How a book's lists hold its statements. This file mirrors the code, and is cited by private
-- contracts, and by the model and invariant of `Book`.
use Rattle.std.specs.Prelude.{◌≡◌, ℕ, ◌+◌, ◌<◌, ◌≤◌, List, [], length, map, take, slice_get}
use Rattle.std.specs.Prelude.{slice_range, Option, Some, None, Contains, unwrap_or, ◌⊎◌}
use Rattle.mm_base.specs.declared.statement.Kind.TheVariants.{Variables, Essential, Distinct}
use Rattle.mm_base.specs.MostBytes.{most_bytes}
use Rattle.mm_frame.specs.declared.distinct.DistinctPair.{DistinctPair}
use Rattle.mm_frame.specs.declared.hypothesis.Hypothesis.{Hypothesis}
use Rattle.mm_frame.specs.declared.number.LabelId.{LabelId}
use Rattle.mm_frame.specs.declared.number.Sym.{Sym}
use Rattle.mm_frame.specs.declared.piece.Piece.{Piece}
use Rattle.mm_frame.specs.declared.tables.Entry.{Entry}
use Rattle.mm_frame.specs.declared.part.Part.{Part}
use Rattle.mm_frame.specs.declared.tables.SymbolInfo.{SymbolInfo}
use Rattle.mm_frame.specs.declared.tables.LabelInfo.{LabelInfo}
use Rattle.mm_frame.specs.declared.tables.Tables.{Tables}
use Rattle.mm_frame.specs.Sentence.{Sentence, SomeSentence, Declares, Types, IsAssertion}
use Rattle.mm_frame.specs.Active.{IsActive, IsConstant, IsVariable}
use Rattle.mm_frame.specs.Form.{IsSound}
use Rattle.mm_frame.specs.Numbers.{symbols_of, labelled_sentences, IsNumbered}
use Rattle.mm_frame.specs.FrameIndex.{AreHypotheses, HaveTypings, ArePairs}
use Rattle.mm_frame.specs.Pieces.{variables_of, AreItsPieces, HavePatterns, HaveIndices}
use Rattle.mm_frame.specs.Mirror.Latest.{IsLatest}
use Rattle.mm_frame.specs.Mirror.ScopesOf.{HaveScopes}
use Rattle.mm_frame.specs.Mirror.Stated.{Stated, AllStated}
use Rattle.mm_frame.specs.Mirror.Wide.{AreWide}
use Rattle.mm_frame.specs.declared.wide.WideDistinct.{WideDistinct}

-- the names of some numbers
abbrev pub names_by : List (List ℕ) → List Sym → List (List ℕ)
names_by names numbers = map (λ n. unwrap_or (slice_get names n.0) []) numbers

-- the name of a label, where there is one
abbrev pub label_by : List (List ℕ) → Option LabelId → Option (List ℕ)
label_by names None = None
label_by names (Some id) = slice_get names id.0

-- what an entry says, by the names of the symbols and of the labels, and the list of all symbols
abbrev pub sentence_by : List (List ℕ) → List (List ℕ) → List Sym → Entry → Sentence
sentence_by symbols labels flat e = record {
  kind = e.kind;
  label = label_by labels e.label;
  symbols = names_by symbols (slice_range flat e.symbols.start e.symbols.end);
}

-- the statements that the lists hold
unfoldable pub sentences_by : List (List ℕ) → List (List ℕ) → List Sym → List Entry → List Sentence
sentences_by symbols labels flat log = map (sentence_by symbols labels flat) log

abbrev pub statements_of : Tables → List Sentence
statements_of t = sentences_by t.symbols.names t.labels.names t.flat.items t.log.items

-- the index of the latest statement that is so, if there is one
abbrev pub IsLatestIn : (Sentence → Type 0) → List Sentence → Option ℕ → Type 0
IsLatestIn P statements None = ¬ (SomeSentence statements P)
IsLatestIn P statements (Some index) = IsLatest P statements index

-- a `$f` of the variable
abbrev pub GivesType : List ℕ → Sentence → Type 0
GivesType x f = (code : List ℕ) × Types code x f

-- what is known of a symbol is so
pub record IsInfo (statements : List Sentence) (x : List ℕ) (info : SymbolInfo) : Type 0 where
  pub variable : IsLatestIn (Declares Variables x) statements info.variable
  pub floating : IsLatestIn (GivesType x) statements info.floating

-- some `$c` or `$v` declares the symbol
abbrev pub IsDeclared : List Sentence → List ℕ → Type 0
IsDeclared statements x = IsConstant statements x ⊎ IsVariable statements x

-- this is known of a declared symbol
pub record IsKnown (statements : List Sentence) (x : List ℕ) (info : SymbolInfo) : Type 0 where
  pub declared : IsDeclared statements x
  pub known : IsInfo statements x info

-- the part lies in a list
pub record IsPartWithin (part : Part) (len : ℕ) : Type 0 where
  pub ordered : part.start ≤ part.end
  pub within : part.end ≤ len

-- what is known of each symbol
pub record AreInfos (statements : List Sentence) (symbols : List (List ℕ))
    (infos : List SymbolInfo) : Type 0 where
  pub all : symbols ≡ symbols_of statements
  pub informed : length infos ≡ length symbols
  pub each : (n : ℕ) (x : List ℕ) (info : SymbolInfo) → slice_get symbols n ≡ Some x
      → slice_get infos n ≡ Some info
      → IsInfo statements x info

-- what is known of a label has the kind and the symbols of its statement's entry
pub record IsEntered (log : List Entry) (info : LabelInfo) : Type 0 where
  pub entry : Entry
  pub there : slice_get log info.index ≡ Some entry
  pub kind : entry.kind ≡ info.kind
  pub symbols : entry.symbols ≡ info.symbols

-- what is known of each label
pub record AreLabelInfos (statements : List Sentence) (labels : List (List ℕ))
    (named : List LabelInfo) (log : List Entry) : Type 0 where
  pub all : map (λ s. s.label) (labelled_sentences statements) ≡ map Some labels
  pub informed : length named ≡ length labels
  pub each : (id : ℕ) (info : LabelInfo) → slice_get named id ≡ Some info
      → (s : Sentence) × IsNumbered statements id info.index s
  pub logged : (index : ℕ) (e : Entry) (id : LabelId) → slice_get log index ≡ Some e
      → e.label ≡ Some id
      → length (labelled_sentences (take index statements)) ≡ id.0
  pub entered : (id : ℕ) (info : LabelInfo) → slice_get named id ≡ Some info → IsEntered log info

-- where the symbols of each statement stand
pub record AreEntries (symbols : List (List ℕ)) (labels : List (List ℕ)) (flat : List Sym)
    (log : List Entry) : Type 0 where
  pub within : (index : ℕ) (e : Entry) → slice_get log index ≡ Some e
      → IsPartWithin e.symbols (length flat)
  pub numbered : (n : ℕ) (symbol : Sym) → slice_get flat n ≡ Some symbol → symbol.0 < length symbols
  pub named : (index : ℕ) (e : Entry) (id : LabelId) → slice_get log index ≡ Some e
      → e.label ≡ Some id → id.0 < length labels

-- the indices of the active `$e`, in order
pub record AreEssentials (statements : List Sentence) (indices : List ℕ) : Type 0 where
  pub rising : (i j p q : ℕ) → i < j → slice_get indices i ≡ Some p → slice_get indices j ≡ Some q
      → p < q
  pub only : (i p : ℕ) → slice_get indices i ≡ Some p
      → (s : Sentence) × (slice_get statements p ≡ Some s) × (s.kind ≡ Essential)
      × IsActive statements p
  pub each : (p : ℕ) (s : Sentence) → slice_get statements p ≡ Some s → s.kind ≡ Essential
      → IsActive statements p
      → (i : ℕ) × (slice_get indices i ≡ Some p)

-- the frame of an assertion
pub record IsFrameInfo (statements : List Sentence) (hypotheses : List Hypothesis)
    (pairs : List DistinctPair) (pieces : List Piece) (info : LabelInfo) : Type 0 where
  pub hypotheses_in : IsPartWithin info.hypotheses (length hypotheses)
  pub pairs_in : IsPartWithin info.pairs (length pairs)
  pub conclusion_in : IsPartWithin info.conclusion (length pieces)
  pub are_hypotheses : AreHypotheses (record { statements = statements; index = info.index })
      (map (λ h. h.id.0) (slice_range hypotheses info.hypotheses.start info.hypotheses.end))
  pub are_pairs : ArePairs (record { statements = statements; index = info.index })
      (map (λ pair. (pair.variables.0.0, pair.variables.1.0))
      (slice_range pairs info.pairs.start info.pairs.end))
  pub indexed : HaveIndices
      (variables_of (slice_range hypotheses info.hypotheses.start info.hypotheses.end))
      (slice_range pairs info.pairs.start info.pairs.end)
  pub concluded : (s : Sentence) × (slice_get statements info.index ≡ Some s)
      × AreItsPieces statements
      (variables_of (slice_range hypotheses info.hypotheses.start info.hypotheses.end)) s
      (slice_range pieces info.conclusion.start info.conclusion.end)
  pub patterned : HavePatterns statements
      (variables_of (slice_range hypotheses info.hypotheses.start info.hypotheses.end)) pieces
      (slice_range hypotheses info.hypotheses.start info.hypotheses.end)

-- the frames of all assertions
abbrev pub AreFrames : List Sentence → List Hypothesis → List DistinctPair → List Piece
    → List LabelInfo → Type 0
AreFrames statements hypotheses pairs pieces named =
    (id : ℕ) (info : LabelInfo) (s : Sentence) → slice_get named id ≡ Some info
    → slice_get statements info.index ≡ Some s
    → IsAssertion s.kind → IsFrameInfo statements hypotheses pairs pieces info

-- the pair is of two symbols of the `$d` at its index
abbrev pub IsStatedThere : List Sentence → List (List ℕ) → Stated → Type 0
IsStatedThere statements symbols span =
    (d : Sentence) × (slice_get statements span.index ≡ Some d) × (d.kind ≡ Distinct)
    × (span.pair.0 < span.pair.1)
    × (x : List ℕ) × (y : List ℕ) × (slice_get symbols span.pair.0 ≡ Some x)
    × (slice_get symbols span.pair.1 ≡ Some y)
    × Contains d.symbols x × Contains d.symbols y

-- two symbols were stated no later than at an index, as a pair or by a `$d` of many variables that
-- holds both, by a `$d` that is active after the statement there
abbrev pub AreCovered : List Sentence → AllStated → ℕ → ℕ → ℕ → Type 0
AreCovered statements stated index a b =
    ((i : ℕ) × (span : Stated) × (slice_get stated.pairs i ≡ Some span) × (span.pair ≡ (a, b))
    × (span.index ≤ index)
    × IsActive (take (index + 1) statements) span.index)
    ⊎ ((i : ℕ) × (w : WideDistinct) × (slice_get stated.wide i ≡ Some w)
    × Contains w.members.items a × Contains w.members.items b
    × (w.index ≤ index)
    × IsActive (take (index + 1) statements) w.index)

-- what was stated: each pair by a `$d` at its index, and none while it was active by the one before
pub record AreStated (statements : List Sentence) (symbols : List (List ℕ))
    (stated : AllStated) : Type 0 where
  pub only : (i : ℕ) (span : Stated) → slice_get stated.pairs i ≡ Some span
      → IsStatedThere statements symbols span
  pub each : (index a b : ℕ) (d : Sentence) (x y : List ℕ) → slice_get statements index ≡ Some d
      → d.kind ≡ Distinct
      → slice_get symbols a ≡ Some x → slice_get symbols b ≡ Some y → a < b → Contains d.symbols x
      → Contains d.symbols y
      → AreCovered statements stated index a b
  pub apart : (i j : ℕ) (older newer : Stated) → i < j → slice_get stated.pairs i ≡ Some older
      → slice_get stated.pairs j ≡ Some newer
      → older.pair ≡ newer.pair
      → (older.index < newer.index) × ¬ (IsActive (take newer.index statements) older.index)
  pub wide : AreWide statements symbols stated.wide

-- all lists of a book, as they are between two statements
pub record AreTables (t : Tables) : Type 0 where
  pub sound : IsSound (statements_of t)
  pub counted : length t.log.items + length t.flat.items ≤ t.bytes
  pub small : t.bytes ≤ most_bytes
  pub infos : AreInfos (statements_of t) t.symbols.names t.infos.items
  pub labels : AreLabelInfos (statements_of t) t.labels.names t.named.items t.log.items
  pub entries : AreEntries t.symbols.names t.labels.names t.flat.items t.log.items
  pub scopes : HaveScopes (statements_of t) t.scopes
  pub essentials : AreEssentials (statements_of t) t.essentials.items
  pub frames : AreFrames (statements_of t) t.hypotheses.items t.pairs.items t.pieces.items
      t.named.items
  pub typed : HaveTypings (statements_of t) t.hypotheses.items
  pub stated : AreStated (statements_of t) t.symbols.names t.distinct.stated
