-- What the code knows on its way to a file with a proof written anew. This file mirrors the code,
-- and is cited by private contracts alone.
use Rattle.std.specs.Prelude.{◌≡◌, ℕ, List}
use Rattle.mm_base.specs.Statement.{PlainStatement}
use Rattle.mm_rules.specs.Shown.{Stands}

-- the file and the span are those of the proof of the statement with the label
abbrev pub IsHomeOf : List PlainStatement → (label : List ℕ) → (file : ℕ) → (span : ℕ × ℕ) → Type 0
IsHomeOf statements label file span =
    (s : PlainStatement) → Stands statements label s → (file ≡ s.first.file) × (span ≡ s.span)
