-- What explains a fault of a rule of meaning: the token at fault, and the earlier one with which it
-- collides, which are this project's own.
use Rattle.std.specs.Prelude.{◌≡◌, ℕ, List, [], ◌∷◌, ◌++◌, map, reverse, find, take, drop}
use Rattle.std.specs.Prelude.{Bool, Option, Some, None, option_map, unwrap_or, slice_get}
use Rattle.std.specs.List.{flat_map}
use Rattle.std.specs.Option.{option_to_list}
use Rattle.std.specs.Str.{bytes_eq}
use Rattle.mm_base.specs.declared.statement.Kind.{Kind}
use Rattle.mm_base.specs.declared.statement.Kind.TheVariants.{Constants, Variables, Floating}
use Rattle.mm_base.specs.Token.{PlainToken}
use Rattle.mm_base.specs.Statement.{PlainStatement}
use Rattle.mm_base.specs.Blocks.{IsInnermost}
use Rattle.mm_text.specs.Files.{PlainFile}
use Rattle.mm_text.specs.Reading.{PlainFault, Reads}
use Rattle.mm_frame.specs.declared.rule.MeaningRule.{MeaningRule}
use Rattle.mm_frame.specs.declared.rule.MeaningRule.TheVariants.{M1, M2, M3, M4, M5, M9, M12, M13}
use Rattle.mm_frame.specs.Sentence.{sentence_of}
use Rattle.mm_frame.specs.Breaking.{BreaksAt}
use Rattle.mm_rules.specs.Verdict.{PlainRefusal, sentences}
use Rattle.mm_verdict.specs.Faults.{IsMeaningRefusal}
use Rattle.mm_facts.specs.Explained.{Detail, token_at_fault}
use Rattle.mm_rules.specs.Places.{token_place}
use Rattle.mm_facts.specs.MeaningFacts.{met_as}
use Rattle.mm_explain.specs.Source.{opened_block}

-- the token at fault: the symbol at the index, or the statement's first token where no symbol
-- breaks the rule
abbrev pub token_at : PlainStatement → Option ℕ → PlainToken
token_at s None = s.first
token_at s (Some index) = unwrap_or (slice_get s.symbols index) s.first

-- ---- names that were met before

-- a name, and the token that tells where it was met
pub record Mention : Type 0 where
  pub name : List ℕ
  pub token : PlainToken

-- tokens that tell where their own texts were met
abbrev pub mentions : List PlainToken → List Mention
mentions tokens = map (λ t. record { name = t.text; token = t }) tokens

-- the symbols that a statement of the kind declares
abbrev pub declared_by : Kind → (symbols : List PlainToken) → List Mention
declared_by Constants symbols = mentions symbols
declared_by Variables symbols = mentions symbols
declared_by kind symbols = []

-- the variable to which a statement of the kind gives its type code; where the statement begins
-- tells where
abbrev pub typed_by : Kind → (first : PlainToken) → (symbols : List PlainToken) → List Mention
typed_by Floating first symbols =
    map (λ variable. record { name = variable.text; token = first }) (drop 1 symbols)
typed_by kind first symbols = []

-- the names of an earlier statement at which the rule looks
abbrev pub looked_at : MeaningRule → PlainStatement → List Mention
looked_at M4 s = mentions (option_to_list s.label)
looked_at M5 s = mentions (option_to_list s.label)
looked_at M9 s = []
looked_at M12 s = typed_by s.kind s.first s.symbols
looked_at M13 s = typed_by s.kind s.first s.symbols
looked_at rule s = declared_by s.kind s.symbols

-- the symbols of the statement before the one at the index
abbrev pub symbols_before : PlainStatement → Option ℕ → List Mention
symbols_before s None = []
symbols_before s (Some index) = mentions (take index s.symbols)

-- those at which the rule looks too
abbrev pub looked_at_within : MeaningRule → PlainStatement → Option ℕ → List Mention
looked_at_within M2 s index = symbols_before s index
looked_at_within M3 s index = symbols_before s index
looked_at_within M9 s index = symbols_before s index
looked_at_within rule s index = []

-- where the name was met last, if it was
abbrev pub last_met : (name : List ℕ) → List Mention → Option PlainToken
last_met name met = option_map (λ m. m.token) (find (λ m. bytes_eq m.name name) (reverse met))

-- where the name was met last that the rule looks at, before the symbol at the index
abbrev pub last_looked_at : MeaningRule → (before : List PlainStatement) → PlainStatement
    → (index : Option ℕ) → (name : List ℕ) → Option PlainToken
last_looked_at rule before s index name =
    last_met name (flat_map (looked_at rule) before ++ looked_at_within rule s index)

-- that fact; none where the name wasn't met
abbrev pub met_facts : List PlainFile → MeaningRule → Option PlainToken → List Detail
met_facts files rule None = []
met_facts files rule (Some t) = met_as rule (token_place files t) ∷ []

-- The facts on what came before: for M1 where the innermost open block begins, else where the name
-- was met last.
abbrev pub AreEarlierFacts : (source : Bool) → List PlainFile → MeaningRule
    → (before : List PlainStatement) → PlainStatement → (index : Option ℕ) → List Detail → Type 0
AreEarlierFacts source files M1 before s index details =
    (outer : List PlainStatement) × (opening : PlainStatement) × IsInnermost before outer opening
    × (details ≡ opened_block source files opening.first ∷ [])
AreEarlierFacts source files rule before s index details =
    details
    ≡ met_facts files rule (last_looked_at rule before s index (token_at s index).text)

-- The facts that explain the refusal of a statement of the files for a rule of meaning, and the
-- position in the statement's file where it breaks the rule.
pub record AreMeaningFacts (source : Bool) (files : List PlainFile) (refusal : PlainRefusal)
    (at : ℕ) (details : List Detail) : Type 0 where
  pub before : List PlainStatement
  pub s : PlainStatement
  pub after : List PlainStatement
  pub ending : Option PlainFault
  pub reads : Reads files (before ++ s ∷ after) ending
  pub refused : IsMeaningRefusal files before s refusal
  pub index : Option ℕ
  pub breaks : BreaksAt refused.rule (sentences before) (sentence_of s) index
  pub place : at ≡ (token_at s index).at
  pub earlier : List Detail
  pub met : AreEarlierFacts source files refused.rule before s index earlier
  pub told : details ≡ token_at_fault (token_at s index).text ∷ earlier
