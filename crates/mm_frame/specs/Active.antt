-- What is active at an index (the Metamath book, section 4.2.8, on scopes).
use Rattle.std.specs.Prelude.{◌≡◌, ℕ, suc, ◌<◌, ◌≤◌, List, length, take, drop, count_by, slice_get}
use Rattle.std.specs.Prelude.{Some, ◌⊎◌}
use Rattle.mm_base.specs.declared.statement.Kind.TheVariants.{Constants, Variables, Opening}
use Rattle.mm_base.specs.Blocks.{is_opening, is_closing}
use Rattle.mm_frame.specs.Sentence.{Sentence, SomeSentence, Declares, Types}

-- how many `${`, and how many `$}`
abbrev pub open_marks : List Sentence → ℕ
open_marks statements = count_by (λ s. is_opening s.kind) statements

abbrev pub close_marks : List Sentence → ℕ
close_marks statements = count_by (λ s. is_closing s.kind) statements

-- The block that the statement at an index opens is open after these statements: no prefix of the
-- statements after it has more `$}` than `${`.
pub record IsOpen (statements : List Sentence) (index : ℕ) : Type 0 where
  pub opening : Sentence
  pub there : slice_get statements index ≡ Some opening
  pub opened : opening.kind ≡ Opening
  pub unclosed : (n : ℕ)
      → close_marks (take n (drop (suc index) statements)) ≤ open_marks
      (take n (drop (suc index) statements))

-- The block that is opened at one index holds another: the other comes after its `${` and before
-- its `$}`.
abbrev pub Holds : List Sentence → ℕ → ℕ → Type 0
Holds statements outer index = (outer < index) × IsOpen (take (suc index) statements) outer

-- The statement at an index is active after these statements: each block that holds it is open
-- still.
pub record IsActive (statements : List Sentence) (index : ℕ) : Type 0 where
  pub within : index < length statements
  pub kept : (outer : ℕ) → Holds statements outer index → IsOpen statements outer

-- some active statement is so
abbrev pub SomeActive : List Sentence → (Sentence → Type 0) → Type 0
SomeActive statements P =
    (index : ℕ) × (s : Sentence) × (slice_get statements index ≡ Some s) × IsActive statements index
    × P s

-- a symbol that some `$c`, or some `$v`, declares, active or not
abbrev pub IsConstant : List Sentence → List ℕ → Type 0
IsConstant statements symbol = SomeSentence statements (Declares Constants symbol)

abbrev pub IsVariable : List Sentence → List ℕ → Type 0
IsVariable statements symbol = SomeSentence statements (Declares Variables symbol)

-- a symbol that an active `$c` or `$v` declares
abbrev pub IsActiveSymbol : List Sentence → List ℕ → Type 0
IsActiveSymbol statements symbol =
    SomeActive statements (λ s. Declares Constants symbol s ⊎ Declares Variables symbol s)

-- the variable has an active `$f`
abbrev pub IsTyped : List Sentence → List ℕ → Type 0
IsTyped statements variable = SomeActive statements (λ s. (code : List ℕ) × Types code variable s)
