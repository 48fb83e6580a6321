-- What the code keeps of all statements of the files, once an explanation asked for it. This file
-- mirrors the code, and is cited by private contracts alone.
use Rattle.std.specs.Prelude.{◌≡◌, ◌⊎◌, List, [], map, filter, Option, is_some, option_map}
use Rattle.std.specs.List.{AllZip}
use Rattle.mm_base.specs.Statement.{PlainStatement}
use Rattle.mm_base.specs.Token.{PlainToken, plain_token}
use Rattle.mm_text.specs.Files.{PlainFile, plain_file}
use Rattle.mm_text.specs.Reading.{PlainFault, Reads}
use Rattle.mm_explain.specs.declared.outline.Brief.{Brief}
use Rattle.mm_explain.specs.declared.outline.Outline.{Outline}
use Rattle.mm_rules.specs.Verdict.{CanBeRead}

-- it is the statement in brief
pub record IsBrief (s : PlainStatement) (brief : Brief) : Type 0 where
  pub kind : brief.kind ≡ s.kind
  pub first : plain_token brief.first ≡ s.first
  pub label : option_map plain_token brief.label ≡ s.label

-- the first tokens of those of the statements that have labels, in order
abbrev pub firsts_of : List PlainStatement → List PlainToken
firsts_of statements = map (λ s. s.first) (filter (λ s. is_some s.label) statements)

-- these are the statements that it has
pub record IsOutlineOf (statements : List PlainStatement) (outline : Outline) : Type 0 where
  pub briefs : AllZip IsBrief statements outline.briefs.items
  pub firsts : map plain_token outline.firsts.items ≡ firsts_of statements

-- those that were passed, and the files are the same
pub record HasOutlined (first now : Outline) (passed : List PlainStatement) : Type 0 where
  pub files : now.files ≡ first.files
  pub is : IsOutlineOf passed now

-- all statements of the files
abbrev pub OutlinesAll : List PlainFile → Outline → Type 0
OutlinesAll files outline =
    (statements : List PlainStatement) (ending : Option PlainFault)
    → Reads files statements ending → IsOutlineOf statements outline

-- these, or none as they weren't read yet
pub record IsKeptOutline (files : List PlainFile) (outline : Outline) : Type 0 where
  pub readable : CanBeRead files
  pub same : map plain_file outline.files.now ≡ files
  pub read : IsOutlineOf [] outline ⊎ OutlinesAll files outline
