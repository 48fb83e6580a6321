-- The text of the listing of a theorem's proof, which is this project's own.
use Rattle.std.specs.Prelude.{◌≡◌, ℕ, List, ◌++◌, slice_get, Some, codes}
use Rattle.std.specs.List.{flat_map}
use Rattle.mm_base.specs.Statement.{PlainStatement}
use Rattle.mm_frame.specs.Sentence.{sentence_of, IsLabelled}

-- a space and the symbol, for each symbol
abbrev pub symbols_text : List (List ℕ) → List ℕ
symbols_text symbols = flat_map (λ symbol. codes " " ++ symbol) symbols

-- a statement with this label
abbrev pub Stands : List PlainStatement → List ℕ → PlainStatement → Type 0
Stands statements label s =
    (index : ℕ) × (slice_get statements index ≡ Some s) × IsLabelled label (sentence_of s)
