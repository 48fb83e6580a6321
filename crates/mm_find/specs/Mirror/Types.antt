-- The table of types that the code keeps, and what it decides by it. This file mirrors the code, and
-- is cited by private contracts alone.
use Rattle.std.specs.Prelude.{ℕ, List, Option, option_map}
use Rattle.std.specs.Str.{bytes_eq}
use Rattle.indexmap.specs.IndexMap.{get_by}
use Rattle.mm_text.specs.Files.{PlainFile}
use Rattle.mm_text.specs.Reading.{Reads}
use Rattle.mm_text.specs.Remaining.{Remaining}
use Rattle.std.specs.Prelude.{None}
use Rattle.mm_base.specs.Statement.{PlainStatement}
use Rattle.mm_rules.specs.declared.progress.Progress.{Progress}
use Rattle.mm_rules.specs.Verdict.{sentences}
use Rattle.mm_find.specs.declared.query.Matching.{Matching}
use Rattle.mm_find.specs.declared.types.Types.{Types}
use Rattle.mm_find.specs.Found.{AreAskedTypes}
use Rattle.mm_find.specs.Variant.{AreTypeCodes}
use Rattle.mm_find.specs.Mirror.Walk.{IsUnderway}

-- the type code that the table has of a symbol
abbrev pub type_in : Types → (symbol : List ℕ) → Option (List ℕ)
type_in types symbol =
    option_map (λ code. code.now) (get_by (λ name. bytes_eq symbol name.0.now) types.codes)

-- the statements so far break no rule of meaning, and the table has their types
pub record IsTyping (files : List PlainFile) (p : Progress) (left : Remaining) (types : Types)
    : Type 0 where
  pub way : IsUnderway files p left
  pub typed : AreTypeCodes (sentences way.read.earlier) (type_in types)

-- the table has the types of all statements of the files
abbrev pub HasTypesOf : List PlainFile → Types → Type 0
HasTypesOf files types =
    (statements : List PlainStatement) → Reads files statements None
    → AreTypeCodes (sentences statements) (type_in types)

-- it has them where variants are asked for
abbrev pub HasAskedTypes : Matching → List PlainFile → Types → Type 0
HasAskedTypes matching files types =
    (statements : List PlainStatement) → Reads files statements None
    → AreAskedTypes matching (sentences statements) (type_in types)
