-- What the code knows on its way through checked files that it reads again, theorem by theorem. This
-- file mirrors the code, and is cited by private contracts alone.
use Rattle.std.specs.Prelude.{◌≡◌, ℕ, ◌<◌, List, [], ◌∷◌, ◌++◌, length, true, false, Option, Some}
use Rattle.std.specs.Prelude.{None}
use Rattle.std.specs.List.{AllByRecursion}
use Rattle.mm_base.specs.Statement.{PlainStatement, plain_statement, HasForm}
use Rattle.mm_text.specs.Files.{PlainFile}
use Rattle.mm_text.specs.Reading.{Reads}
use Rattle.mm_frame.specs.declared.number.LabelId.{LabelId}
use Rattle.mm_frame.specs.Numbers.{labelled_sentences}
use Rattle.mm_verdict.specs.declared.theorems.Rereading.{Rereading}
use Rattle.mm_rules.specs.Rests.{IsAt}
use Rattle.mm_rules.specs.Verdict.{is_proof, sentences}

-- the statement is the theorem with the number, in some reading of the files
pub record IsTheoremIn (files : List PlainFile) (id : ℕ) (s : PlainStatement) : Type 0 where
  pub statements : List PlainStatement
  pub reads : Reads files statements None
  pub index : ℕ
  pub at : IsAt statements id index s
  pub complete : is_proof s ≡ true

-- how many of the statements have a label
abbrev pub label_count : List PlainStatement → ℕ
label_count statements = length (labelled_sentences (sentences statements))

-- these statements of the files were read, and the others are left
pub record IsReadTo (files : List PlainFile) (taken : List PlainStatement)
    (reading : Rereading) : Type 0 where
  pub reads : Reads files (taken ++ reading.statements.statements) None
  pub faultless : reading.statements.ending ≡ None
  pub count : reading.labelled ≡ label_count taken
  pub few : label_count (taken ++ reading.statements.statements) < 4294967295

-- none of them is a `$p` with a complete proof
abbrev pub AreNoTheorems : List PlainStatement → Type 0
AreNoTheorems statements = AllByRecursion (λ s. is_proof s ≡ false) statements

-- others were read after these, none of them a theorem
pub record HasPassed (files : List PlainFile) (taken : List PlainStatement)
    (reading : Rereading) : Type 0 where
  pub between : List PlainStatement
  pub none : AreNoTheorems between
  pub read : IsReadTo files (taken ++ between) reading

-- the statement that was read last, after these, is the theorem with the number
pub record IsAtTheorem (files : List PlainFile) (before : List PlainStatement) (id : ℕ)
    (reading : Rereading) : Type 0 where
  pub formed : HasForm (plain_statement reading.statement)
  pub complete : is_proof (plain_statement reading.statement) ≡ true
  pub number : id ≡ label_count before
  pub read : IsReadTo files (before ++ plain_statement reading.statement ∷ []) reading

-- others were read after these, and then the theorem with the number; or there is none after these
abbrev pub GoesTo : List PlainFile → (taken : List PlainStatement) → Option LabelId → Rereading
    → Type 0
GoesTo files taken (Some id) reading =
    (between : List PlainStatement) × AreNoTheorems between
    × IsAtTheorem files (taken ++ between) id.0 reading
GoesTo files taken None reading =
    (between : List PlainStatement) × AreNoTheorems between × Reads files (taken ++ between) None
