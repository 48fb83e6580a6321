-- Which symbol of a statement breaks a rule of meaning (the Metamath book, sections 4.2.1 to
-- 4.2.8).
use Rattle.std.specs.Prelude.{◌≡◌, ℕ, ◌<◌, List, Contains, take, slice_get, ◌⊎◌, Option, Some, None}
use Rattle.mm_base.specs.declared.statement.Kind.TheVariants.{Variables}
use Rattle.mm_frame.specs.declared.rule.MeaningRule.{MeaningRule}
use Rattle.mm_frame.specs.declared.rule.MeaningRule.TheVariants.{M1, M2, M3, M4, M5, M6, M7, M8, M9}
use Rattle.mm_frame.specs.declared.rule.MeaningRule.TheVariants.{M10, M11, M12, M13, M14, M15}
use Rattle.mm_frame.specs.Sentence.{Sentence, SomeSentence, Declares, IsLabelled}
use Rattle.mm_frame.specs.Active.{SomeActive, IsConstant, IsVariable, IsActiveSymbol, IsTyped}

-- the symbol stands in the statement before the index
abbrev pub StandsEarlier : Sentence → (index : ℕ) → (symbol : List ℕ) → Type 0
StandsEarlier s index x = Contains (take index s.symbols) x

-- The symbol at the index of the statement breaks the rule after the statements before. Of a `$f`
-- the symbol is told by the index alone: its type code, or its variable.
abbrev pub SymbolBreaks : MeaningRule → (before : List Sentence) → Sentence → (index : ℕ)
    → (symbol : List ℕ) → Type 0
SymbolBreaks M2 before s index x =
    IsConstant before x ⊎ IsVariable before x ⊎ StandsEarlier s index x
SymbolBreaks M3 before s index x =
    SomeActive before (Declares Variables x) ⊎ IsConstant before x ⊎ StandsEarlier s index x
SymbolBreaks M4 before s index x = SomeSentence before (IsLabelled x)
SymbolBreaks M7 before s index x = ¬ (IsActiveSymbol before x)
SymbolBreaks M8 before s index x = IsConstant before x
SymbolBreaks M9 before s index x = StandsEarlier s index x
SymbolBreaks M10 before s index x = index ≡ 0
SymbolBreaks M11 before s index x = index ≡ 1
SymbolBreaks M12 before s index x = index ≡ 1
SymbolBreaks M13 before s index x = index ≡ 1
SymbolBreaks M14 before s index x = index ≡ 0
SymbolBreaks M15 before s index x = IsVariable before x × ¬ (IsTyped before x)
SymbolBreaks rule before s index x = ⊥

-- the first symbol of the statement that breaks the rule stands at the index
pub record BreaksFirst (rule : MeaningRule) (before : List Sentence) (s : Sentence)
    (index : ℕ) : Type 0 where
  pub symbol : List ℕ
  pub there : slice_get s.symbols index ≡ Some symbol
  pub breaks : SymbolBreaks rule before s index symbol
  pub first : (earlier : ℕ) (x : List ℕ) → earlier < index → slice_get s.symbols earlier ≡ Some x
      → ¬ (SymbolBreaks rule before s earlier x)

-- no symbol breaks the rule: where the `$c` stands does, or the label
abbrev pub IsOfNoSymbol : MeaningRule → Type 0
IsOfNoSymbol rule = (rule ≡ M1) ⊎ (rule ≡ M5) ⊎ (rule ≡ M6)

-- the index of the first symbol that breaks the rule, or none where no symbol does
abbrev pub BreaksAt : MeaningRule → (before : List Sentence) → Sentence → Option ℕ → Type 0
BreaksAt rule before s (Some index) = BreaksFirst rule before s index
BreaksAt rule before s None = IsOfNoSymbol rule
