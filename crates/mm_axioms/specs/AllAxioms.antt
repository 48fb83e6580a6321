-- What each theorem rests on, line by line.
use Rattle.std.specs.Prelude.{◌≡◌, ◌⊎◌, ℕ, Bool, List, [], ◌∷◌, ◌++◌, map, codes, true}
use Rattle.std.specs.List.{AllZip}
use Rattle.mm_base.specs.declared.statement.Kind.TheVariants.{Provable}
use Rattle.mm_base.specs.Statement.{PlainStatement}
use Rattle.mm_rules.specs.Verdict.{is_unproved, labels_of, sentences}
use Rattle.mm_rules.specs.Answer.{labels_at}
use Rattle.mm_rules.specs.Rests.{IsNumberWhere, AreInOrder, IsNamed, IsReport}
use Rattle.mm_axioms.specs.Essential.{AreTold}

-- a line: a word, and the others
pub record ReportLine : Type 0 where
  pub word : List ℕ
  pub others : List (List ℕ)

-- the line of an unproved theorem: a question mark, and its label
abbrev pub unproved_line : List ℕ → ReportLine
unproved_line label = record { word = codes "?"; others = label ∷ [] }

-- the line of a proved theorem: its label, and those of what it rests on, first of the axioms, and
-- then of the unproved theorems, each of these after a question mark
abbrev pub proved_line : List (List ℕ) → (label : List ℕ) → (axioms unproved : List ℕ) → ReportLine
proved_line labels label axioms unproved = record {
  word = label;
  others = labels_at labels axioms ++ map (λ other. codes "?" ++ other) (labels_at labels unproved);
}

-- the line of the `$p` with a number: that of an unproved theorem, or what its report tells, of the
-- axioms all or the essential ones
abbrev pub IsReportLine : (essential : Bool) → List PlainStatement → ℕ → ReportLine → Type 0
IsReportLine essential statements id line =
    (label : List ℕ)
    × ((IsNamed statements label (λ s. is_unproved s ≡ true) id × (line ≡ unproved_line label))
    ⊎ ((axioms : List ℕ) × (unproved : List ℕ)
    × (report : IsReport statements label axioms unproved) × (report.id ≡ id)
    × (told : List ℕ) × AreTold essential (sentences statements) id axioms told
    × (line ≡ proved_line (labels_of statements) label told unproved)))

-- there is a line for each `$p`, in database order
pub record AreReportLines (essential : Bool) (statements : List PlainStatement)
    (lines : List ReportLine) : Type 0 where
  pub theorems : List ℕ
  pub are_theorems : AreInOrder (IsNumberWhere statements (λ s. s.kind ≡ Provable)) theorems
  pub each : AllZip (IsReportLine essential statements) theorems lines
