-- The forms of statements, as a grammar over tokens (the Metamath book, sections 4.1.3 and 4.2).
use Rattle.std.specs.Prelude.{◌≡◌, ℕ, ◌+◌, ◌≤◌, List, [], ◌∷◌, ◌++◌, length, sum_by, map}
use Rattle.std.specs.Prelude.{if◌then◌else◌, codes, Bool, true, false, Option, Some, None}
use Rattle.std.specs.Prelude.{Contains, option_map}
use Rattle.std.specs.List.{AllByRecursion}
use Rattle.mm_base.specs.declared.statement.Kind.{Kind}
use Rattle.mm_base.specs.declared.statement.Kind.TheVariants.{Constants, Variables, Distinct}
use Rattle.mm_base.specs.declared.statement.Kind.TheVariants.{Floating, Essential, Axiom, Provable}
use Rattle.mm_base.specs.declared.statement.Kind.TheVariants.{Opening, Closing}
use Rattle.mm_base.specs.declared.statement.Statement.{Statement}
use Rattle.mm_base.specs.Token.{PlainToken, plain_token, IsLabel, is_label, HoldsNoDollar}

-- a statement without where it lies in memory
pub record PlainStatement : Type 0 where
  pub kind : Kind
  pub first : PlainToken
  pub label : Option PlainToken
  pub symbols : List PlainToken
  pub proof : List PlainToken
  pub span : ℕ × ℕ

abbrev pub plain_statement : Statement → PlainStatement
plain_statement s = record {
  kind = s.kind;
  first = plain_token s.first;
  label = option_map plain_token s.label;
  symbols = map plain_token s.symbols.items;
  proof = map plain_token s.proof.items;
  span = s.span;
}

-- the keyword of a kind of statement
abbrev pub keyword_of : Kind → List ℕ
keyword_of Constants = codes "$c"
keyword_of Variables = codes "$v"
keyword_of Distinct = codes "$d"
keyword_of Floating = codes "$f"
keyword_of Essential = codes "$e"
keyword_of Axiom = codes "$a"
keyword_of Provable = codes "$p"
keyword_of Opening = codes "${"
keyword_of Closing = codes "$}"

abbrev pub is_provable : Kind → Bool
is_provable Provable = true
is_provable kind = false

-- the keywords that can be met: those of the kinds, and `$.`, `$=`, `$(`, `$)`, `$[`, `$]`
abbrev pub keywords : List (List ℕ)
keywords =
    codes "$c" ∷ codes "$v" ∷ codes "$f" ∷ codes "$e" ∷ codes "$d" ∷ codes "$a" ∷ codes "$p"
    ∷ codes "$." ∷ codes "$="
    ∷ codes "$(" ∷ codes "$)" ∷ codes "$[" ∷ codes "$]" ∷ codes "${" ∷ codes "$}" ∷ []

abbrev pub IsKeyword : List ℕ → Type 0
IsKeyword text = Contains keywords text

-- how many symbols a statement of a kind has
abbrev pub FitsCount : Kind → ℕ → Type 0
FitsCount Constants n = 1 ≤ n
FitsCount Variables n = 1 ≤ n
FitsCount Distinct n = 2 ≤ n
FitsCount Floating n = n ≡ 2
FitsCount Essential n = 1 ≤ n
FitsCount Axiom n = 1 ≤ n
FitsCount Provable n = 1 ≤ n
FitsCount Opening n = n ≡ 0
FitsCount Closing n = n ≡ 0

-- a keyword alone
pub record IsBareHead (kind : Kind) (head : List PlainToken) : Type 0 where
  pub keyword : PlainToken
  pub tokens : head ≡ keyword ∷ []
  pub sign : keyword.text ≡ keyword_of kind

-- a label and a keyword
pub record IsLabelledHead (kind : Kind) (head : List PlainToken) : Type 0 where
  pub label : PlainToken
  pub keyword : PlainToken
  pub tokens : head ≡ label ∷ keyword ∷ []
  pub named : IsLabel label.text
  pub sign : keyword.text ≡ keyword_of kind

-- what stands before the symbols of a statement; a `${` or a `$}` is a whole statement
abbrev pub IsHead : Kind → List PlainToken → Type 0
IsHead Constants head = IsBareHead Constants head
IsHead Variables head = IsBareHead Variables head
IsHead Distinct head = IsBareHead Distinct head
IsHead Floating head = IsLabelledHead Floating head
IsHead Essential head = IsLabelledHead Essential head
IsHead Axiom head = IsLabelledHead Axiom head
IsHead Provable head = IsLabelledHead Provable head
IsHead Opening head = IsBareHead Opening head
IsHead Closing head = IsBareHead Closing head

-- the kinds of statements that have symbols, so that they can be unfinished: all but `${` and `$}`
abbrev pub HasBody : Kind → Type 0
HasBody Opening = ⊥
HasBody Closing = ⊥
HasBody kind = Unit {0}

-- the label of the statement of which these are the first tokens, if it has one
abbrev pub label_in : List PlainToken → Option PlainToken
label_in [] = None
label_in (t ∷ tokens) = if is_label t.text then Some t else None

-- tokens that hold no `$`: symbols, or tokens of a proof
abbrev pub AreSymbols : List PlainToken → Type 0
AreSymbols tokens = AllByRecursion (λ t. HoldsNoDollar t.text) tokens

-- the `$=`, the proof and the `$.` of a `$p`; the proof's bytes are those after the `$=` up to the
-- `$.`
pub record EndsInProof (s : PlainStatement) (tail : List PlainToken) : Type 0 where
  pub equals : PlainToken
  pub stop : PlainToken
  pub tokens : tail ≡ equals ∷ s.proof ++ stop ∷ []
  pub sign : equals.text ≡ codes "$="
  pub end : stop.text ≡ codes "$."
  pub proof : AreSymbols s.proof
  pub span : s.span ≡ (equals.at + 2, stop.at)

-- a `$.` alone
pub record EndsAtOnce (s : PlainStatement) (tail : List PlainToken) : Type 0 where
  pub stop : PlainToken
  pub tokens : tail ≡ stop ∷ []
  pub end : stop.text ≡ codes "$."
  pub proof : s.proof ≡ []
  pub span : s.span ≡ (0, 0)

-- what stands after the symbols of a statement
abbrev pub IsTail : PlainStatement → Kind → List PlainToken → Type 0
IsTail s Constants tail = EndsAtOnce s tail
IsTail s Variables tail = EndsAtOnce s tail
IsTail s Distinct tail = EndsAtOnce s tail
IsTail s Floating tail = EndsAtOnce s tail
IsTail s Essential tail = EndsAtOnce s tail
IsTail s Axiom tail = EndsAtOnce s tail
IsTail s Provable tail = EndsInProof s tail
IsTail s Opening tail = (tail ≡ []) × (s.proof ≡ []) × (s.span ≡ (0, 0))
IsTail s Closing tail = (tail ≡ []) × (s.proof ≡ []) × (s.span ≡ (0, 0))

-- these tokens, first to last, are this statement
pub record Spells (tokens : List PlainToken) (s : PlainStatement) : Type 0 where
  pub head : List PlainToken
  pub tail : List PlainToken
  pub whole : tokens ≡ head ++ s.symbols ++ tail
  pub begins : IsHead s.kind head
  pub first : (others : List PlainToken) × (head ≡ s.first ∷ others)
  pub label : s.label ≡ label_in head
  pub symbols : AreSymbols s.symbols
  pub count : FitsCount s.kind (length s.symbols)
  pub ends : IsTail s s.kind tail

-- these tokens, first to last, are these statements, one after the other
abbrev pub SpellsAll : List PlainToken → List PlainStatement → Type 0
SpellsAll tokens [] = tokens ≡ []
SpellsAll tokens (s ∷ statements) =
    (prefix : List PlainToken) × (rest : List PlainToken) × (tokens ≡ prefix ++ rest) × Spells prefix s
    × SpellsAll rest statements

-- a label, for the kinds that have one
abbrev pub HasLabel : Kind → Option PlainToken → Type 0
HasLabel Floating label = (l : PlainToken) × (label ≡ Some l) × IsLabel l.text
HasLabel Essential label = (l : PlainToken) × (label ≡ Some l) × IsLabel l.text
HasLabel Axiom label = (l : PlainToken) × (label ≡ Some l) × IsLabel l.text
HasLabel Provable label = (l : PlainToken) × (label ≡ Some l) × IsLabel l.text
HasLabel kind label = label ≡ None

-- what the grammar says of a statement by itself, and that each of its tokens holds a byte
pub record HasForm (s : PlainStatement) : Type 0 where
  pub count : FitsCount s.kind (length s.symbols)
  pub label : HasLabel s.kind s.label
  pub first : 1 ≤ length s.first.text
  pub symbols : AllByRecursion (λ t. 1 ≤ length t.text) s.symbols
  pub proof : AllByRecursion (λ t. 1 ≤ length t.text) s.proof

-- how many bytes a statement's tokens have: the first one, the symbols, the proof
abbrev pub bytes_in : PlainStatement → ℕ
bytes_in s =
    length s.first.text + sum_by (λ t. length t.text) s.symbols
    + sum_by (λ t. length t.text) s.proof
