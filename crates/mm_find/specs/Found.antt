-- What `mm find` lists: assertions of a database by patterns, whatever their proofs. Where no pattern
-- is asked for, they are all listed. The question and the form of its answer are this
-- project's own.
use Rattle.std.specs.Prelude.{◌≡◌, ◌⊎◌, ℕ, List, [], ◌∷◌, ◌++◌, map, filter}
use Rattle.std.specs.List.{AllByRecursion}
use Rattle.std.specs.Prelude.{codes, Bool, true, false, Option, Some, None}
use Rattle.mm_base.specs.declared.statement.Kind.{Kind}
use Rattle.mm_base.specs.Statement.{PlainStatement, keyword_of}
use Rattle.mm_text.specs.declared.fault.LoadRule.{LoadRule}
use Rattle.mm_text.specs.Files.{PlainFile, BreaksLoad}
use Rattle.mm_text.specs.Reading.{PlainFault, Reads}
use Rattle.mm_frame.specs.Sentence.{Sentence, IsAssertion, IsLabelled, is_essential}
use Rattle.mm_frame.specs.Frame.{AreMandatory}
use Rattle.mm_frame.specs.Rules.{AllMeant}
use Rattle.mm_rules.specs.Shown.{symbols_text}
use Rattle.mm_rules.specs.Answer.{plain_refusal}
use Rattle.mm_rules.specs.Verdict.{CanBeRead, PlainRefusal, sentences, text_refusal}
use Rattle.mm_rules.specs.declared.rule.Rule.TheVariants as rules
use Rattle.mm_rules.specs.declared.fault.CheckFault.{CheckFault}
use Rattle.mm_rules.specs.declared.fault.CheckFault.TheVariants as check
use Rattle.mm_verdict.specs.Faults.{IsMeaningRefusal}
use Rattle.mm_find.specs.declared.query.Matching.{Matching}
use Rattle.mm_find.specs.declared.query.Matching.TheVariants.{Shapes, Variants}
use Rattle.mm_find.specs.Shape.{HasShape}
use Rattle.mm_find.specs.Variant.{AreTypeCodes, HasVariant}

-- ---- an assertion

-- what an assertion states: the expressions of its essential hypotheses, and its own
pub record PlainAssertion : Type 0 where
  pub label : List ℕ
  pub kind : Kind
  pub hypotheses : List (List (List ℕ))
  pub expression : List (List ℕ)

-- The statement after those before is an assertion, and this is what it states. Its essential
-- hypotheses are those of its frame, in database order (the Metamath book, section 4.2.7).
pub record States (before : List Sentence) (s : Sentence) (a : PlainAssertion) : Type 0 where
  pub asserts : IsAssertion s.kind
  pub label : IsLabelled a.label s
  pub kind : a.kind ≡ s.kind
  pub mandatory : List Sentence
  pub framed : AreMandatory before s mandatory
  pub hypotheses : a.hypotheses
      ≡ map (λ h. h.symbols) (filter (λ h. is_essential h.kind) mandatory)
  pub expression : a.expression ≡ s.symbols

-- ---- its line

-- what stands behind a hypothesis before these others
abbrev pub sign_before : List (List (List ℕ)) → List ℕ
sign_before [] = codes "=>"
sign_before (e ∷ others) = codes "&"

-- the words of the hypotheses, each with its sign behind it
abbrev pub premises : List (List (List ℕ)) → List (List ℕ)
premises [] = []
premises (e ∷ others) = e ++ sign_before others ∷ premises others

-- the line: `LABEL KIND : HYPOTHESIS & .. => EXPRESSION`
abbrev pub line_of : PlainAssertion → List ℕ
line_of a =
    a.label
    ++ symbols_text (keyword_of a.kind ∷ codes ":" ∷ premises a.hypotheses ++ a.expression)
    ++ codes "\n"

-- ---- which are asked for

-- The patterns that are asked for, what an expression must have of each, and whether hypotheses are
-- looked into too.
pub record PlainQuery : Type 0 where
  pub patterns : List (List (List ℕ))
  pub matching : Matching
  pub hypotheses : Bool

-- the expressions that are looked into
abbrev pub looked_into : (hypotheses : Bool) → PlainAssertion → List (List (List ℕ))
looked_into true a = a.expression ∷ a.hypotheses
looked_into false a = a.expression ∷ []

-- the expression has the pattern: its tokens are a shape of it, or it has a variant of them
abbrev pub HasPattern : Matching → (type_of : List ℕ → Option (List ℕ))
    → (pattern expression : List (List ℕ)) → Type 0
HasPattern Shapes type_of pattern expression = HasShape pattern expression
HasPattern (Variants whole) type_of pattern expression =
    HasVariant type_of whole pattern expression

-- one of the expressions is so
abbrev pub SomeExpression : (List (List ℕ) → Type 0) → (expressions : List (List (List ℕ)))
    → Type 0
SomeExpression P [] = ⊥
SomeExpression P (e ∷ others) = P e ⊎ SomeExpression P others

-- the pattern is that of one of the expressions of the assertion that are looked into
abbrev pub IsMet : PlainQuery → (type_of : List ℕ → Option (List ℕ)) → PlainAssertion
    → (pattern : List (List ℕ)) → Type 0
IsMet query type_of a pattern =
    SomeExpression (HasPattern query.matching type_of pattern) (looked_into query.hypotheses a)

-- the assertion is asked for: each of the patterns is met
abbrev pub IsAskedFor : PlainQuery → (type_of : List ℕ → Option (List ℕ)) → PlainAssertion → Type 0
IsAskedFor query type_of a = AllByRecursion (IsMet query type_of a) query.patterns

-- ---- the list

-- what is listed of an assertion: its line, if it is asked for
abbrev pub IsLineFor : PlainQuery → (type_of : List ℕ → Option (List ℕ)) → PlainAssertion
    → (line : List ℕ) → Type 0
IsLineFor query type_of a line =
    (IsAskedFor query type_of a × (line ≡ line_of a))
    ⊎ (¬ (IsAskedFor query type_of a) × (line ≡ []))

-- what is listed of a statement after those before: that of an assertion; nothing of another
abbrev pub IsListedOf : PlainQuery → (type_of : List ℕ → Option (List ℕ))
    → (before : List Sentence) → Sentence → (line : List ℕ) → Type 0
IsListedOf query type_of before s line =
    ((a : PlainAssertion) × States before s a × IsLineFor query type_of a line)
    ⊎ (¬ (IsAssertion s.kind) × (line ≡ []))

-- what is listed of the statements that are left after those before, in their order
abbrev pub AreListed : PlainQuery → (type_of : List ℕ → Option (List ℕ))
    → (before left : List Sentence) → (text : List ℕ) → Type 0
AreListed query type_of before [] text = text ≡ []
AreListed query type_of before (s ∷ left) text =
    (line : List ℕ) × (others : List ℕ) × (text ≡ line ++ others)
    × IsListedOf query type_of before s line
    × AreListed query type_of (before ++ s ∷ []) left others

-- the type codes are those of the statements, where variants are asked for
abbrev pub AreAskedTypes : Matching → List Sentence → (type_of : List ℕ → Option (List ℕ)) → Type 0
AreAskedTypes Shapes statements type_of = Unit {0}
AreAskedTypes (Variants whole) statements type_of = AreTypeCodes statements type_of

-- The list for the files: they are read without a fault, no statement breaks a rule of meaning, and
-- this is what is listed of the statements. How any of them is proved is left open.
pub record IsListOf (query : PlainQuery) (files : List PlainFile) (text : List ℕ) : Type 0 where
  pub readable : CanBeRead files
  pub statements : List PlainStatement
  pub reads : Reads files statements None
  pub meant : AllMeant (sentences statements)
  pub type_of : List ℕ → Option (List ℕ)
  pub types : AreAskedTypes query.matching (sentences statements) type_of
  pub listed : AreListed query type_of [] (sentences statements) text

-- ---- the first fault, where there is one

-- The files are refused for the first rule of meaning that a statement breaks, or for the fault of
-- the text. No statement before it breaks a rule of meaning.
pub record IsRefusedUnproved (files : List PlainFile) (refusal : PlainRefusal) : Type 0 where
  pub readable : CanBeRead files
  pub before : List PlainStatement
  pub meant : AllMeant (sentences before)
  pub fault :
      ((s : PlainStatement) × (after : List PlainStatement) × (ending : Option PlainFault)
      × Reads files (before ++ s ∷ after) ending × IsMeaningRefusal files before s refusal)
      ⊎ ((fault : PlainFault) × Reads files before (Some fault)
      × (refusal ≡ text_refusal files fault))

-- why there is no list: the files can't be taken as a whole, or this is their first fault; of a
-- refused growth nothing is said
abbrev pub IsUnlisted : List PlainFile → CheckFault → Type 0
IsUnlisted files (check.Load rule) =
    (broken : LoadRule) × BreaksLoad files broken × (rule ≡ rules.Load broken)
IsUnlisted files (check.Refused refusal) = IsRefusedUnproved files (plain_refusal refusal)
IsUnlisted files check.Memory = Unit {0}
