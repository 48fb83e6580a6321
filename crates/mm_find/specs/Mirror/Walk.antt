-- What the code knows on its way through the statements, and of an assertion. This file mirrors the
-- code, and is cited by private contracts alone.
use Rattle.std.specs.Prelude.{◌≡◌, ℕ, List, [], ◌∷◌, ◌++◌, length, Option, Some, None}
use Rattle.mm_text.specs.Files.{PlainFile}
use Rattle.mm_text.specs.Reading.{Reads}
use Rattle.mm_text.specs.Remaining.{Remaining}
use Rattle.mm_base.specs.Statement.{PlainStatement, HasForm}
use Rattle.mm_frame.specs.Numbers.{labelled_sentences}
use Rattle.mm_frame.specs.Rules.{AllMeant}
use Rattle.mm_frame.specs.Sentence.{Sentence, sentence_of, IsAssertion}
use Rattle.mm_frame.specs.Taken.{TakenAs}
use Rattle.mm_frame.specs.declared.answer.Taken.{Taken}
use Rattle.mm_rules.specs.declared.fault.Stop.{Stop}
use Rattle.mm_rules.specs.declared.fault.Stop.TheVariants as stop
use Rattle.mm_rules.specs.declared.progress.Progress.{Progress}
use Rattle.mm_rules.specs.Answer.{plain_refusal}
use Rattle.mm_rules.specs.Verdict.{CanBeRead, sentences}
use Rattle.mm_verdict.specs.Mirror.Judged.{IsRead}
use Rattle.mm_find.specs.Found.{PlainQuery, AreListed, IsRefusedUnproved}

-- the assertion was taken last, after those before
pub record IsLast (statements : List Sentence) (id : ℕ) (before : List Sentence)
    (s : Sentence) : Type 0 where
  pub whole : statements ≡ before ++ s ∷ []
  pub number : id ≡ length (labelled_sentences before)
  pub label : (label : List ℕ) × (s.label ≡ Some label)
  pub asserts : IsAssertion s.kind

-- the statement was taken last, after those before, as this
pub record IsTakenLast (statements : List Sentence) (taken : Taken) (before : List Sentence)
    (s : PlainStatement) : Type 0 where
  pub whole : statements ≡ before ++ sentence_of s ∷ []
  pub kind : TakenAs before s.kind taken
  pub formed : HasForm s

-- the statements so far break no rule of meaning
pub record IsUnderway (files : List PlainFile) (p : Progress) (left : Remaining) : Type 0 where
  pub read : IsRead files p left
  pub meant : AllMeant (sentences read.earlier)

-- and this is what is listed of them
pub record IsListing (query : PlainQuery) (type_of : List ℕ → Option (List ℕ))
    (files : List PlainFile) (p : Progress) (left : Remaining) (text : List ℕ) : Type 0 where
  pub way : IsUnderway files p left
  pub listed : AreListed query type_of [] (sentences way.read.earlier) text

-- there is no fault, and this is what is listed of all statements, by these types
pub record IsListOfAll (query : PlainQuery) (type_of : List ℕ → Option (List ℕ))
    (files : List PlainFile) (text : List ℕ) : Type 0 where
  pub readable : CanBeRead files
  pub statements : List PlainStatement
  pub reads : Reads files statements None
  pub meant : AllMeant (sentences statements)
  pub listed : AreListed query type_of [] (sentences statements) text

-- the files are refused, or memory ran out
abbrev pub StopsListing : List PlainFile → Stop → Type 0
StopsListing files (stop.Refused refusal) = IsRefusedUnproved files (plain_refusal refusal)
StopsListing files stop.Memory = Unit {0}
