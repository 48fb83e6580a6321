-- What the grammar says of statements, said of what they say (the Metamath book, section 4.2).
use Rattle.std.specs.Prelude.{◌≡◌, ℕ, List, length, slice_get, Option, Some, None}
use Rattle.mm_base.specs.declared.statement.Kind.{Kind}
use Rattle.mm_base.specs.declared.statement.Kind.TheVariants.{Floating, Essential, Axiom, Provable}
use Rattle.mm_base.specs.Token.{IsLabel}
use Rattle.mm_base.specs.Statement.{FitsCount}
use Rattle.mm_frame.specs.Sentence.{Sentence}
use Rattle.mm_frame.specs.Rules.{AllMeant}

-- a label, for the kinds that have one
abbrev pub HasItsLabel : Kind → Option (List ℕ) → Type 0
HasItsLabel Floating label = (l : List ℕ) × (label ≡ Some l) × IsLabel l
HasItsLabel Essential label = (l : List ℕ) × (label ≡ Some l) × IsLabel l
HasItsLabel Axiom label = (l : List ℕ) × (label ≡ Some l) × IsLabel l
HasItsLabel Provable label = (l : List ℕ) × (label ≡ Some l) × IsLabel l
HasItsLabel kind label = label ≡ None

-- the statement has as many symbols as its kind asks for, and a label where its kind has one
pub record IsFormedSentence (s : Sentence) : Type 0 where
  pub count : FitsCount s.kind (length s.symbols)
  pub label : HasItsLabel s.kind s.label

-- each of the statements has
abbrev pub AllFormed : List Sentence → Type 0
AllFormed statements =
    (index : ℕ) (s : Sentence) → slice_get statements index ≡ Some s → IsFormedSentence s

-- the statements break no rule of meaning, and are formed
abbrev pub IsSound : List Sentence → Type 0
IsSound statements = AllMeant statements × AllFormed statements
