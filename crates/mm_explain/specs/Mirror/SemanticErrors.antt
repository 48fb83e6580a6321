-- What the code knows of a statement that breaks a rule of meaning, as it reads the files again up
-- to it. This file mirrors the code, and is cited by private contracts alone.
use Rattle.std.specs.Prelude.{◌≡◌, ℕ, List, [], ◌∷◌, ◌++◌, length, drop, map, reverse, Option}
use Rattle.std.specs.Prelude.{option_map}
use Rattle.std.specs.List.{flat_map}
use Rattle.mm_base.specs.declared.statement.Kind.{Kind}
use Rattle.mm_base.specs.declared.statement.Kind.TheVariants.{Opening, Closing}
use Rattle.mm_base.specs.declared.token.Token.{Token}
use Rattle.mm_text.specs.Files.{PlainFile}
use Rattle.mm_text.specs.Reading.{PlainFault, Reads}
use Rattle.mm_text.specs.Remaining.{Remaining}
use Rattle.mm_base.specs.Statement.{PlainStatement, plain_statement}
use Rattle.mm_base.specs.Token.{plain_token}
use Rattle.mm_frame.specs.declared.rule.MeaningRule.{MeaningRule}
use Rattle.mm_frame.specs.Breaking.{BreaksAt}
use Rattle.mm_frame.specs.Rules.{FirstBroken, AllMeant, IsMeant}
use Rattle.mm_frame.specs.Sentence.{Sentence, sentence_of}
use Rattle.mm_explain.specs.declared.semantic_error.SemanticError.{SemanticError}
use Rattle.mm_explain.specs.declared.earlier_declaration.LastMet.{LastMet}
use Rattle.mm_verdict.specs.Faults.{IsMeaningRefusal}
use Rattle.mm_explain.specs.MeaningFacts.{last_met, looked_at}
use Rattle.mm_rules.specs.Verdict.{CanBeRead, PlainRefusal, sentences}

-- the statement of the files before which so many stand
pub record Site (files : List PlainFile) (count : ℕ) : Type 0 where
  pub before : List PlainStatement
  pub s : PlainStatement
  pub after : List PlainStatement
  pub ending : Option PlainFault
  pub reads : Reads files (before ++ s ∷ after) ending
  pub counted : length before ≡ count

-- the statements before that one break no rule of meaning
abbrev pub AreMeantBefore : List PlainFile → (count : ℕ) → Type 0
AreMeantBefore files count = (site : Site files count) × AllMeant (sentences site.before)

-- It breaks this rule first, and those before it break none.
pub record IsBroken (files : List PlainFile) (count : ℕ) (rule : MeaningRule) : Type 0 where
  pub site : Site files count
  pub meant : AllMeant (sentences site.before)
  pub broken : FirstBroken rule (sentences site.before) (sentence_of site.s)

-- The files are refused at this statement, for the rule of meaning that it breaks first.
pub record IsStopped (files : List PlainFile) (refusal : PlainRefusal) : Type 0 where
  pub readable : CanBeRead files
  pub before : List PlainStatement
  pub s : PlainStatement
  pub after : List PlainStatement
  pub ending : Option PlainFault
  pub reads : Reads files (before ++ s ∷ after) ending
  pub meant : AllMeant (sentences before)
  pub refused : IsMeaningRefusal files before s refusal

-- the next statement that is left breaks no rule of meaning
abbrev pub IsMeantNext : List Sentence → Remaining → Type 0
IsMeantNext before left =
    (s : PlainStatement) × (rest : List PlainStatement) × (left.statements ≡ s ∷ rest)
    × IsMeant before (sentence_of s)

-- So many statements of the files were read, and the others are left.
pub record IsPast (files : List PlainFile) (count : ℕ) (left : Remaining) : Type 0 where
  pub earlier : List PlainStatement
  pub reads : Reads files (earlier ++ left.statements) left.ending
  pub counted : length earlier ≡ count

-- It is known where the name was met last, in the statements that were passed, that the rule looks
-- at.
pub record HasMet (first now : LastMet) (passed : List PlainStatement) : Type 0 where
  pub rule : now.rule ≡ first.rule
  pub name : now.name ≡ first.name
  pub met : option_map plain_token now.last
      ≡ last_met first.name.now (flat_map (looked_at first.rule) passed)

-- where a token stands
abbrev pub position_of : Token → ℕ × ℕ
position_of t = (t.file, t.at)

-- the positions of the blocks that are open after a statement of the kind, the innermost first,
-- where these were open before, and it stands at the position
abbrev pub positions_after : Kind → (position : ℕ × ℕ) → List (ℕ × ℕ) → List (ℕ × ℕ)
positions_after Opening position open_ones = position ∷ open_ones
positions_after Closing position open_ones = drop 1 open_ones
positions_after kind position open_ones = open_ones

-- and after these statements
abbrev pub positions_from : List (ℕ × ℕ) → List PlainStatement → List (ℕ × ℕ)
positions_from open_ones [] = open_ones
positions_from open_ones (s ∷ statements) =
    positions_from (positions_after s.kind (s.first.file, s.first.at) open_ones) statements

-- these are the tokens of the blocks that are open after the statements, the innermost last
abbrev pub AreOpenBlocks : List PlainStatement → List Token → Type 0
AreOpenBlocks statements blocks =
    map position_of (reverse blocks) ≡ positions_from [] statements

-- the error is that of the statement at its site
pub record IsSemanticError (files : List PlainFile) (error : SemanticError) : Type 0 where
  pub readable : CanBeRead files
  pub known : IsBroken files error.before error.rule
  pub statement : (site : Site files error.before) → plain_statement error.statement ≡ site.s
  pub breaks : (site : Site files error.before)
      → BreaksAt error.rule (sentences site.before) (sentence_of site.s) error.index
