-- Which axioms of a report have the type code of the theorem. The type code of a statement is its
-- first symbol (Metamath book, sections 4.2.5 and 4.2.6). Axioms are called essential for it here;
-- in `show`, steps are that are reached through `$e`, which is another thing.
use Rattle.std.specs.Prelude.{◌≡◌, ℕ, Bool, true, false, List, slice_get, Contains, Some}
use Rattle.mm_base.specs.Statement.{PlainStatement}
use Rattle.mm_frame.specs.Sentence.{Sentence}
use Rattle.mm_frame.specs.Numbers.{IsNumbered}
use Rattle.mm_rules.specs.Verdict.{sentences}
use Rattle.mm_rules.specs.Rests.{AreInOrder, IsReport}

-- the statement with the number has this type code
abbrev pub HasType : List Sentence → (code : List ℕ) → ℕ → Type 0
HasType statements code id =
    (index : ℕ) × (s : Sentence) × IsNumbered statements id index s
    × (slice_get s.symbols 0 ≡ Some code)

-- the statements with these numbers have one type code
abbrev pub HaveOneType : List Sentence → ℕ → ℕ → Type 0
HaveOneType statements id other =
    (code : List ℕ) × HasType statements code id × HasType statements code other

-- of these numbers those with the type code of the theorem, in the order of the database
abbrev pub AreOfType : List Sentence → (theorem : ℕ) → (numbers chosen : List ℕ) → Type 0
AreOfType statements theorem numbers chosen =
    AreInOrder (λ n. Contains numbers n × HaveOneType statements theorem n) chosen

-- these of the axioms are told of the theorem: the essential ones alone, or all
abbrev pub AreTold : (essential : Bool) → List Sentence → (theorem : ℕ) → (axioms told : List ℕ)
    → Type 0
AreTold true statements theorem axioms told = AreOfType statements theorem axioms told
AreTold false statements theorem axioms told = told ≡ axioms

-- what the theorem with the label rests on, as its report lists it, but of the axioms those alone
-- that have its type code; the unproved theorems are listed whatever theirs
pub record IsEssentialReport (statements : List PlainStatement) (label : List ℕ)
    (axioms unproved : List ℕ) : Type 0 where
  pub all_axioms : List ℕ
  pub report : IsReport statements label all_axioms unproved
  pub are_axioms : AreOfType (sentences statements) report.id all_axioms axioms
