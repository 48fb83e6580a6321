-- What statements say, without where they stand.
use Rattle.std.specs.Prelude.{◌≡◌, ℕ, ◌<◌, List, [], ◌∷◌, map, slice_get, Contains, Option, Some}
use Rattle.std.specs.Prelude.{option_map, ◌⊎◌, Bool, true, false}
use Rattle.mm_base.specs.declared.statement.Kind.{Kind}
use Rattle.mm_base.specs.declared.statement.Kind.TheVariants.{Distinct, Floating, Essential, Axiom}
use Rattle.mm_base.specs.declared.statement.Kind.TheVariants.{Provable}
use Rattle.mm_base.specs.declared.statement.Statement.{Statement}
use Rattle.mm_base.specs.Statement.{PlainStatement, plain_statement}

-- a statement's kind, its label and its symbols
pub record Sentence : Type 0 where
  pub kind : Kind
  pub label : Option (List ℕ)
  pub symbols : List (List ℕ)

abbrev pub sentence_of : PlainStatement → Sentence
sentence_of s = record {
  kind = s.kind;
  label = option_map (λ t. t.text) s.label;
  symbols = map (λ t. t.text) s.symbols;
}

abbrev pub sentence_in : Statement → Sentence
sentence_in s = sentence_of (plain_statement s)

-- some of the statements is so
abbrev pub SomeSentence : List Sentence → (Sentence → Type 0) → Type 0
SomeSentence statements P =
    (index : ℕ) × (s : Sentence) × (slice_get statements index ≡ Some s) × P s

-- a `$f` or a `$e`
abbrev pub IsHypothesis : Kind → Type 0
IsHypothesis kind = (kind ≡ Floating) ⊎ (kind ≡ Essential)

-- it is a `$e`
abbrev pub is_essential : Kind → Bool
is_essential Essential = true
is_essential kind = false

-- a `$a` or a `$p`
abbrev pub IsAssertion : Kind → Type 0
IsAssertion kind = (kind ≡ Axiom) ⊎ (kind ≡ Provable)

-- a `$e`, `$a` or `$p`: its symbols are an expression over variables with types
abbrev pub IsStated : Kind → Type 0
IsStated kind = (kind ≡ Essential) ⊎ IsAssertion kind

-- a `$d`, `$f`, `$e`, `$a` or `$p`: it uses symbols
abbrev pub IsUse : Kind → Type 0
IsUse kind = (kind ≡ Distinct) ⊎ (kind ≡ Floating) ⊎ IsStated kind

-- the statement declares the symbol, as constant or variable
abbrev pub Declares : Kind → List ℕ → Sentence → Type 0
Declares kind symbol s = (s.kind ≡ kind) × Contains s.symbols symbol

-- the statement has this label
abbrev pub IsLabelled : List ℕ → Sentence → Type 0
IsLabelled label s = s.label ≡ Some label

-- a `$f` that gives the variable this type code
abbrev pub Types : List ℕ → List ℕ → Sentence → Type 0
Types code variable s = (s.kind ≡ Floating) × (s.symbols ≡ code ∷ variable ∷ [])

-- the symbol stands twice in the list
pub record StandsTwice (symbols : List (List ℕ)) (symbol : List ℕ) : Type 0 where
  pub i : ℕ
  pub j : ℕ
  pub apart : i < j
  pub at_i : slice_get symbols i ≡ Some symbol
  pub at_j : slice_get symbols j ≡ Some symbol
