-- What the code knows of the statement that it finds at a label. This file mirrors the code, and is
-- cited by private contracts alone.
use Rattle.std.specs.Prelude.{◌≡◌, ℕ, List, [], ◌∷◌, ◌++◌, length, Option, Some, None}
use Rattle.mm_text.specs.Files.{PlainFile}
use Rattle.mm_base.specs.Statement.{PlainStatement, plain_statement}
use Rattle.mm_frame.specs.Numbers.{IsNumbered}
use Rattle.mm_frame.specs.Sentence.{sentence_of}
use Rattle.mm_rules.specs.declared.rule.AskRule.TheVariants.{A1}
use Rattle.mm_rules.specs.Verdict.{sentences}
use Rattle.mm_verdict.specs.Alone.{IsReadTo, IsNoTheorem}
use Rattle.mm_explain.specs.declared.statement_at.Stated.{Stated}

-- the statement with the label is found, and the book has what stands before it, and it
pub record HasStated (files : List PlainFile) (label : List ℕ) (r : Stated) : Type 0 where
  pub before : List PlainStatement
  pub at : IsReadTo files label before (plain_statement r.statement)
  pub book : r.book.statements ≡ sentences (before ++ plain_statement r.statement ∷ [])
  pub numbered :
      IsNumbered r.book.statements r.id.0 (length before)
      (sentence_of (plain_statement r.statement))

-- the statement is found, or no statement has the label
abbrev pub EndsAt : List PlainFile → (label : List ℕ) → Option Stated → Type 0
EndsAt files label (Some r) = HasStated files label r
EndsAt files label None = IsNoTheorem files label A1
