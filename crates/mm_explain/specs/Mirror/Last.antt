-- What the code knows of the fault that ends the run before it explains it. This file mirrors the
-- code, and is cited by private contracts alone.
use Rattle.std.specs.Prelude.{◌≡◌, ℕ, List, ◌++◌, Bool, true, false, Option, Some, None, ◌⊎◌}
use Rattle.mm_base.specs.Blocks.{AreClosed, IsInnermost}
use Rattle.mm_base.specs.declared.token.Token.{Token}
use Rattle.mm_base.specs.Statement.{PlainStatement}
use Rattle.mm_text.specs.Files.{PlainFile}
use Rattle.mm_text.specs.Reading.{PlainFault, Reads}
use Rattle.mm_rules.specs.declared.rule.Rule.{Rule}
use Rattle.mm_rules.specs.declared.rule.Rule.TheVariants as rules
use Rattle.mm_rules.specs.Verdict.{PlainRefusal, CanBeRead, text_refusal}
use Rattle.mm_facts.specs.Explained.{Detail, details_text}
use Rattle.mm_explain.specs.Mirror.SemanticErrors.{IsStopped}
use Rattle.mm_explain.specs.TextFacts.{AreOrigins, files_up_to, unclosed_in}

-- this is the refusal for the fault of the text
pub record IsTextRefusal (files : List PlainFile) (refusal : PlainRefusal) : Type 0 where
  pub readable : CanBeRead files
  pub statements : List PlainStatement
  pub fault : PlainFault
  pub reads : Reads files statements (Some fault)
  pub refused : refusal ≡ text_refusal files fault

-- whether the rule is one of the text
abbrev pub is_of_text : Rule → Bool
is_of_text (rules.Text broken) = true
is_of_text rule = false

-- this is the refusal that ends the run
abbrev pub EndsRun : List PlainFile → PlainRefusal → Type 0
EndsRun files refusal = IsTextRefusal files refusal ⊎ IsStopped files refusal

-- ---- the facts that are written

-- this is where what isn't closed before a position of a file began, if such is there
pub record IsBegin (files : List PlainFile) (file at : ℕ) (begin : Option ℕ) : Type 0 where
  pub earlier : List PlainStatement
  pub ending : Option PlainFault
  pub reads : Reads (files_up_to files file at) earlier ending
  pub same : begin ≡ unclosed_in file ending

-- the facts are written of where what the fault stands in began
pub record TellsOrigins (source : Bool) (files : List PlainFile) (statements : List PlainStatement)
    (fault : PlainFault) (old new : List ℕ) : Type 0 where
  pub details : List Detail
  pub begun : AreOrigins source files statements fault fault.rule details
  pub put : new ≡ old ++ details_text details

-- the token is that of the `${` of the innermost block that is open after these statements, if one is
abbrev pub IsOpenBlock : List PlainStatement → Option Token → Type 0
IsOpenBlock statements None = AreClosed statements
IsOpenBlock statements (Some t) =
    (outer : List PlainStatement) × (opening : PlainStatement)
    × IsInnermost statements outer opening
    × (t.file ≡ opening.first.file) × (t.at ≡ opening.first.at)
