-- What is said of the labelled statements of a database: by the comment right before each, and by
-- the mathbox in which it stands. Marks and mathboxes are conventions of the field.
use Rattle.std.specs.Prelude.{◌≡◌, ◌↔◌, ℕ, List, None, Some, length, slice_get, true}
use Rattle.mm_base.specs.Statement.{PlainStatement}
use Rattle.mm_text.specs.Files.{PlainFile}
use Rattle.mm_text.specs.Reading.{Reads}
use Rattle.mm_frame.specs.Numbers.{labelled_sentences}
use Rattle.mm_rules.specs.Rests.{IsAt}
use Rattle.mm_rules.specs.Verdict.{sentences}
use Rattle.mm_render.specs.Shorter.{IsMarkedWith, mathbox_of, proof_mark, usage_mark}
use Rattle.mm_minimize.specs.declared.remarks.Remark.{Remark}

-- this is said of the statement where it stands
pub record IsRemarkOf (files : List PlainFile) (s : PlainStatement) (r : Remark) : Type 0 where
  pub file : r.file ≡ s.first.file
  pub mathbox : r.mathbox ≡ mathbox_of files s
  pub discouraged : (r.is_discouraged ≡ true) ↔ IsMarkedWith usage_mark files s
  pub settled : (r.is_settled ≡ true) ↔ IsMarkedWith proof_mark files s

-- the remarks are those of the labelled statements, by number
pub record AreRemarksOf (files : List PlainFile) (statements : List PlainStatement)
    (remarks : List Remark) : Type 0 where
  pub count : length remarks ≡ length (labelled_sentences (sentences statements))
  pub each : (n index : ℕ) (s : PlainStatement) (r : Remark) → IsAt statements n index s
      → slice_get remarks n ≡ Some r → IsRemarkOf files s r

-- the same, in any reading of the files
abbrev pub AreRemarks : List PlainFile → List Remark → Type 0
AreRemarks files remarks =
    (statements : List PlainStatement) → Reads files statements None
    → AreRemarksOf files statements remarks
