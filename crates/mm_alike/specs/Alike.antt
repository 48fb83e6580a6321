-- Two versions of a database side by side: which assertions say the same, and which proofs spell one
-- tree. It is this project's own; what an assertion says besides its own expression is its frame (the
-- Metamath book, section 4.2.7), and the trees are those of proofs (sections 4.1.4 and 4.3).
use Rattle.std.specs.Prelude.{◌≡◌, ◌↔◌, ℕ, List, map, take}
use Rattle.mm_base.specs.declared.statement.Kind.{Kind}
use Rattle.mm_base.specs.Statement.{PlainStatement}
use Rattle.mm_frame.specs.Frame.{AreMandatory, IsMandatoryPair}
use Rattle.mm_frame.specs.Numbers.{IsNumbered}
use Rattle.mm_frame.specs.Sentence.{Sentence, IsAssertion, IsLabelled}
use Rattle.mm_step.specs.Tree.{Trees}
use Rattle.mm_rules.specs.Rests.{HasTree}
use Rattle.mm_rules.specs.Verdict.{sentences}

-- ---- what assertions say

-- the assertion with a number has this label
abbrev pub IsAssertionNamed : List Sentence → (label : List ℕ) → (id : ℕ) → Type 0
IsAssertionNamed statements label id =
    (index : ℕ) × (s : Sentence) × IsNumbered statements id index s × IsLabelled label s
    × IsAssertion s.kind

-- what a statement says beyond its label
abbrev pub said : Sentence → Kind × List (List ℕ)
said s = (s.kind, s.symbols)

-- Two assertions, each after the statements before it, say the same: they are of one kind, and
-- their expressions are the same symbols; so are their mandatory hypotheses, one after the other,
-- whatever the labels of these; and they have the same mandatory distinct pairs.
pub record SayTheSame (before : List Sentence) (s : Sentence) (others : List Sentence)
    (t : Sentence) : Type 0 where
  pub assertion : said s ≡ said t
  pub hypotheses : List Sentence
  pub mandatory : AreMandatory before s hypotheses
  pub other_hypotheses : List Sentence
  pub other_mandatory : AreMandatory others t other_hypotheses
  pub premises : map said hypotheses ≡ map said other_hypotheses
  pub pairs : (x y : List ℕ) → IsMandatoryPair before s x y ↔ IsMandatoryPair others t x y

-- the statements with these numbers in two databases say the same
abbrev pub AreAlike : (old new : List Sentence) → (one other : ℕ) → Type 0
AreAlike old new one other =
    (i : ℕ) × (s : Sentence) × IsNumbered old one i s
    × (j : ℕ) × (t : Sentence) × IsNumbered new other j t
    × SayTheSame (take i old) s (take j new) t

-- ---- what changed

-- the label of the assertion with a number is that of no assertion of the other database
abbrev pub IsAlone : (statements others : List Sentence) → ℕ → Type 0
IsAlone statements others id =
    (label : List ℕ) × IsAssertionNamed statements label id
    × ((n : ℕ) → ¬ (IsAssertionNamed others label n))

-- the label of the assertion with a number is that of an assertion of the other database that
-- doesn't say the same
abbrev pub IsChanged : (statements others : List Sentence) → ℕ → Type 0
IsChanged statements others id =
    (label : List ℕ) × IsAssertionNamed statements label id
    × (n : ℕ) × IsAssertionNamed others label n × ¬ (AreAlike statements others id n)

-- the numbers are those of theorems whose complete proofs spell two trees, labels being compared by
-- their names
abbrev pub SpellTwoTrees : (statements others : List PlainStatement) → (one other : ℕ) → Type 0
SpellTwoTrees statements others one other =
    (i : ℕ) × (t : Trees) × HasTree statements one i t
    × (j : ℕ) × (u : Trees) × HasTree others other j u × ¬ (t ≡ u)

-- the theorem with a number says the same as that of the other database with its label, but their
-- proofs spell two trees
abbrev pub IsReproved : (statements others : List PlainStatement) → ℕ → Type 0
IsReproved statements others id =
    (label : List ℕ) × IsAssertionNamed (sentences statements) label id
    × (n : ℕ) × IsAssertionNamed (sentences others) label n
    × AreAlike (sentences statements) (sentences others) id n
    × SpellTwoTrees statements others id n

-- the label of the assertion with a number is that of one of the other database
abbrev pub IsShared : (statements others : List Sentence) → ℕ → Type 0
IsShared statements others id =
    (label : List ℕ) × IsAssertionNamed statements label id
    × (n : ℕ) × IsAssertionNamed others label n
