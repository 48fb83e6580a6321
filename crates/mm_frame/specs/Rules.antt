-- The rules of meaning: which a statement breaks after the statements before it (the Metamath book,
-- sections 4.2.1 to 4.2.8).
use Rattle.std.specs.Prelude.{◌≡◌, ◌≢◌, ℕ, ◌<◌, List, ◌∷◌, ◌++◌, Contains, ◌⊎◌}
use Rattle.mm_base.specs.declared.statement.Kind.TheVariants.{Constants, Variables, Distinct}
use Rattle.mm_frame.specs.declared.rule.MeaningRule.{MeaningRule}
use Rattle.mm_frame.specs.declared.rule.MeaningRule.TheVariants.{M1, M2, M3, M4, M5, M6, M7, M8, M9}
use Rattle.mm_frame.specs.declared.rule.MeaningRule.TheVariants.{M10, M11, M12, M13, M14, M15}
use Rattle.mm_frame.specs.Sentence.{Sentence, SomeSentence, IsStated, IsUse, Declares, IsLabelled}
use Rattle.mm_frame.specs.Sentence.{Types, StandsTwice}
use Rattle.mm_frame.specs.Active.{IsOpen, SomeActive, IsConstant, IsVariable, IsActiveSymbol}
use Rattle.mm_frame.specs.Active.{IsTyped}

-- some symbol of the statement is so
abbrev pub SomeSymbol : Sentence → (List ℕ → Type 0) → Type 0
SomeSymbol s P = (symbol : List ℕ) × Contains s.symbols symbol × P symbol

-- the label of the statement is so
abbrev pub ItsLabel : Sentence → (List ℕ → Type 0) → Type 0
ItsLabel s P = (label : List ℕ) × IsLabelled label s × P label

-- the first symbol of the statement is so
abbrev pub ItsFirst : Sentence → (List ℕ → Type 0) → Type 0
ItsFirst s P = (first : List ℕ) × (others : List (List ℕ)) × (s.symbols ≡ first ∷ others) × P first

-- the statement is a `$f`, of whose type code and variable this holds
abbrev pub ItsTyping : Sentence → (List ℕ → List ℕ → Type 0) → Type 0
ItsTyping s P = (code : List ℕ) × (variable : List ℕ) × Types code variable s × P code variable

-- the statement breaks the rule after the statements before it
abbrev pub Breaks : MeaningRule → List Sentence → Sentence → Type 0
Breaks M1 before s = (s.kind ≡ Constants) × (index : ℕ) × IsOpen before index
Breaks M2 before s =
    (s.kind ≡ Constants)
    × SomeSymbol s (λ x. IsConstant before x ⊎ IsVariable before x ⊎ StandsTwice s.symbols x)
Breaks M3 before s =
    (s.kind ≡ Variables)
    × SomeSymbol s
    (λ x. SomeActive before (Declares Variables x) ⊎ IsConstant before x ⊎ StandsTwice s.symbols x)
Breaks M4 before s =
    ((s.kind ≡ Constants) ⊎ (s.kind ≡ Variables))
    × SomeSymbol s (λ x. SomeSentence before (IsLabelled x))
Breaks M5 before s = ItsLabel s (λ l. SomeSentence before (IsLabelled l))
Breaks M6 before s = ItsLabel s (λ l. IsConstant before l ⊎ IsVariable before l)
Breaks M7 before s = IsUse s.kind × SomeSymbol s (λ x. ¬ (IsActiveSymbol before x))
Breaks M8 before s = (s.kind ≡ Distinct) × SomeSymbol s (IsConstant before)
Breaks M9 before s = (s.kind ≡ Distinct) × SomeSymbol s (StandsTwice s.symbols)
Breaks M10 before s = ItsTyping s (λ code x. IsVariable before code)
Breaks M11 before s = ItsTyping s (λ code x. IsConstant before x)
Breaks M12 before s = ItsTyping s (λ code x. IsTyped before x)
Breaks M13 before s =
    ItsTyping s
    (λ code x. SomeSentence before (λ f. (other : List ℕ) × Types other x f × (other ≢ code)))
Breaks M14 before s = IsStated s.kind × ItsFirst s (IsVariable before)
Breaks M15 before s =
    IsStated s.kind × SomeSymbol s (λ x. IsVariable before x × ¬ (IsTyped before x))

-- the rank of a rule in the order in which the rules are judged
abbrev pub rank : MeaningRule → ℕ
rank M1 = 1
rank M2 = 2
rank M3 = 3
rank M4 = 4
rank M5 = 5
rank M6 = 6
rank M7 = 7
rank M8 = 8
rank M9 = 9
rank M10 = 10
rank M11 = 11
rank M12 = 12
rank M13 = 13
rank M14 = 14
rank M15 = 15

-- the first rule that the statement breaks
pub record FirstBroken (rule : MeaningRule) (before : List Sentence) (s : Sentence) : Type 0 where
  pub broken : Breaks rule before s
  pub first : (other : MeaningRule) → rank other < rank rule → ¬ (Breaks other before s)

-- the statement breaks no rule
abbrev pub IsMeant : List Sentence → Sentence → Type 0
IsMeant before s = (rule : MeaningRule) → ¬ (Breaks rule before s)

-- each of the statements breaks no rule after those before it
abbrev pub AllMeant : List Sentence → Type 0
AllMeant statements =
    (before after : List Sentence) (s : Sentence) → statements ≡ before ++ s ∷ after
    → IsMeant before s
