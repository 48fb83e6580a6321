-- Numbers for symbols and labels: their indices in the order of first declaration, and of
-- statements.
use Rattle.std.specs.Prelude.{◌≡◌, ℕ, List, [], ◌∷◌, ◌++◌, length, map, filter, take, slice_get}
use Rattle.std.specs.Prelude.{is_some, true, Some, if◌then◌else◌}
use Rattle.std.specs.List.{fold, flat_map, list_any}
use Rattle.std.specs.Str.{bytes_eq}
use Rattle.mm_base.specs.declared.statement.Kind.{Kind}
use Rattle.mm_base.specs.declared.statement.Kind.TheVariants.{Constants, Variables}
use Rattle.mm_frame.specs.Sentence.{Sentence, IsAssertion}

-- the symbols that a statement of a kind declares: all of a `$c` or `$v`, none of another
abbrev pub declared_in : Kind → List (List ℕ) → List (List ℕ)
declared_in Constants symbols = symbols
declared_in Variables symbols = symbols
declared_in kind symbols = []

abbrev pub declared_by : Sentence → List (List ℕ)
declared_by s = declared_in s.kind s.symbols

-- names, with one more at their end where it isn't among them
abbrev pub with_name : List (List ℕ) → List ℕ → List (List ℕ)
with_name names name = if list_any (bytes_eq name) names then names else (names ++ name ∷ [])

-- the declared symbols, each once, in the order of their first declarations: a symbol's number is
-- its index here
unfoldable pub symbols_of : List Sentence → List (List ℕ)
symbols_of statements = fold with_name [] (flat_map declared_by statements)

-- the number is the symbol's
abbrev pub IsNumberOf : List Sentence → List ℕ → ℕ → Type 0
IsNumberOf statements symbol number = slice_get (symbols_of statements) number ≡ Some symbol

-- these are the numbers of these symbols
abbrev pub AreNumbers : List Sentence → List ℕ → List (List ℕ) → Type 0
AreNumbers statements numbers symbols =
    map (slice_get (symbols_of statements)) numbers ≡ map Some symbols

-- the labelled statements in their order: a label's number is its statement's index here
abbrev pub labelled_sentences : List Sentence → List Sentence
labelled_sentences statements = filter (λ s. is_some s.label) statements

-- the labelled statement with a number, and its index
pub record IsNumbered (statements : List Sentence) (id index : ℕ) (s : Sentence) : Type 0 where
  pub there : slice_get statements index ≡ Some s
  pub named : is_some s.label ≡ true
  pub number : length (labelled_sentences (take index statements)) ≡ id

-- the number is that of a labelled statement
abbrev pub IsLabelNumber : List Sentence → ℕ → Type 0
IsLabelNumber statements id = (index : ℕ) × (s : Sentence) × IsNumbered statements id index s

-- the number is that of an assertion
abbrev pub IsAssertionNumber : List Sentence → ℕ → Type 0
IsAssertionNumber statements id =
    (index : ℕ) × (s : Sentence) × IsNumbered statements id index s × IsAssertion s.kind
