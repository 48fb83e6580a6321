-- What the stores' lists are as lists of numbers, and what pieces say over them.
use Rattle.std.specs.Prelude.{ℕ, ◌<◌, List, [], ◌∷◌, map, drop, slice_index_or, Vec}
use Rattle.std.specs.List.{flat_map}
use Rattle.mm_frame.specs.declared.number.Sym.{Sym}
use Rattle.mm_frame.specs.declared.piece.Piece.{Piece}
use Rattle.mm_frame.specs.declared.piece.Piece.TheVariants as pieces
use denote.Ref.{Bor}

-- the numbers of an expression's symbols
abbrev pub numbers_in : List Sym → List ℕ
numbers_in symbols = map (λ s. s.0) symbols

-- rows of symbols as expressions
abbrev pub rows_in : {Z : Type 0} → List (Vec Sym Z) → List (List ℕ)
rows_in rows = map (λ row. map (λ s. s.0) row.items) rows

-- lent expressions, by the numbers of their symbols
abbrev pub entries_in : List (Bor (List Sym)) → List (List ℕ)
entries_in entries = map (λ e. map (λ s. s.0) e.now) entries

-- what the piece says, where the entries of the hypotheses are these
abbrev pub said_by : List (List ℕ) → Piece → List ℕ
said_by entries (pieces.Symbol symbol) = symbol.0 ∷ []
said_by entries (pieces.Value index) = drop 1 (slice_index_or entries index [])

-- what pieces say
abbrev pub all_said_by : List (List ℕ) → List Piece → List ℕ
all_said_by entries pieces = flat_map (said_by entries) pieces

-- the piece names no index behind so many
abbrev pub IsWithinIndices : ℕ → Piece → Type 0
IsWithinIndices count (pieces.Symbol symbol) = Unit {0}
IsWithinIndices count (pieces.Value index) = index < count
