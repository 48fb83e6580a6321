-- Tables of what all theorems rest on. This file mirrors the code, and is cited by private
-- contracts alone.
use Rattle.std.specs.Prelude.{◌≡◌, ◌↔◌, ℕ, List, slice_get, Some, None}
use Rattle.std.specs.Prelude.{Option, Bool, true}
use Rattle.std.specs.List.{AllZip}
use Rattle.mm_base.specs.declared.statement.Kind.{Kind}
use Rattle.mm_base.specs.Statement.{PlainStatement}
use Rattle.mm_frame.specs.Sentence.{Sentence}
use Rattle.mm_frame.specs.Numbers.{IsNumbered}
use Rattle.mm_step.specs.Plain.{ids_in}
use Rattle.mm_axioms.specs.declared.report.Report.{Report}
use Rattle.mm_axioms.specs.declared.report.Tables.{Tables}
use Rattle.mm_rules.specs.Conclusion.{ProofUses}
use Rattle.mm_rules.specs.Verdict.{is_unproved, sentences}
use Rattle.mm_rules.specs.Rests.{AreInOrder, RestsOn, IsNamed, IsReport}
use Rattle.mm_axioms.specs.Essential.{AreTold}
use Rattle.mm_axioms.specs.AllAxioms.{ReportLine, IsReportLine, unproved_line, proved_line}
use Rattle.mm_axioms.specs.Reply.{lines_text}
use Rattle.mm_axioms.specs.Mirror.Bits.{has_number}
use Rattle.mm_axioms.specs.Mirror.Rows.{PlainRows, row_in}
use Rattle.mm_rules.specs.Mirror.Marks.{UsedIn, IsAxiomNumber}

-- the number is that of a statement of the kind
abbrev pub IsOfKind : List Sentence → Kind → ℕ → Type 0
IsOfKind statements kind id =
    (index : ℕ) × (s : Sentence) × IsNumbered statements id index s × (s.kind ≡ kind)

-- in the row of each theorem stand the indices of those of these numbers that it rests on
abbrev pub TellRests : List ProofUses → List ℕ → PlainRows → Type 0
TellRests uses numbers rows =
    (n c : ℕ) → has_number (row_in rows n) c ≡ true
    ↔ ((x : ℕ) × (slice_get numbers c ≡ Some x) × RestsOn (UsedIn uses) n x)

-- the tables are those of the axioms, and of the unproved theorems
pub record AreTables (statements : List Sentence) (incomplete : List ℕ) (uses : List ProofUses)
    (t : Tables) : Type 0 where
  pub axioms : AreInOrder (IsAxiomNumber statements) (ids_in t.axioms.items)
  pub axiom_rows : TellRests uses (ids_in t.axioms.items) t.axiom_rows
  pub unproved_rows : TellRests uses incomplete t.unproved_rows

-- the theorem with a number and a label is unproved, or this is its report
abbrev pub IsReportAt : List PlainStatement → List ℕ → ℕ → Option Report → Type 0
IsReportAt statements label id None = IsNamed statements label (λ s. is_unproved s ≡ true) id
IsReportAt statements label id (Some told) =
    (report : IsReport statements label (ids_in told.axioms.items) (ids_in told.unproved.items))
    × (report.id ≡ id)

-- the theorem with a number and a label is unproved, or this is told of its report
abbrev pub IsToldAt : (essential : Bool) → List PlainStatement → List ℕ → ℕ → Option Report
    → Type 0
IsToldAt essential statements label id None =
    IsNamed statements label (λ s. is_unproved s ≡ true) id
IsToldAt essential statements label id (Some told) =
    (axioms : List ℕ) × (report : IsReport statements label axioms (ids_in told.unproved.items))
    × (report.id ≡ id)
    × AreTold essential (sentences statements) id axioms (ids_in told.axioms.items)

-- the numbers in the row of the theorem
abbrev pub AreReached : List ℕ → PlainRows → ℕ → List ℕ → Type 0
AreReached numbers rows id ids =
    AreInOrder (λ n. (c : ℕ) × (slice_get numbers c ≡ Some n)
    × (has_number (row_in rows id) c ≡ true)) ids

-- the report of the theorem is that of the tables
pub record IsReportIn (t : Tables) (incomplete : List ℕ) (id : ℕ) (report : Report) : Type 0 where
  pub axioms : AreReached (ids_in t.axioms.items) t.axiom_rows id (ids_in report.axioms.items)
  pub unproved : AreReached incomplete t.unproved_rows id (ids_in report.unproved.items)

-- the line that tells a report; that of an unproved theorem where there is none
abbrev pub line_of_report : List (List ℕ) → (label : List ℕ) → Option Report → ReportLine
line_of_report labels label None = unproved_line label
line_of_report labels label (Some told) =
    proved_line labels label (ids_in told.axioms.items) (ids_in told.unproved.items)

-- lines for these theorems, whose text this is
abbrev pub AreLinesOf : (essential : Bool) → List PlainStatement → List ℕ → List ℕ → Type 0
AreLinesOf essential statements theorems text =
    (lines : List ReportLine) × AllZip (IsReportLine essential statements) theorems lines
    × (text ≡ lines_text lines)
