-- What the code knows of what comments and mathboxes say of the statements of two databases, by
-- labels. This file mirrors the code.
use Rattle.std.specs.Prelude.{◌≡◌, ℕ, List, Some, slice_get}
use Rattle.mm_base.specs.Statement.{PlainStatement}
use Rattle.mm_text.specs.Files.{PlainFile}
use Rattle.mm_frame.specs.Sentence.{Sentence}
use Rattle.mm_minimize.specs.declared.remarks.Remark.{Remark}
use Rattle.mm_minimize.specs.Remarks.{IsRemarkOf}
use Rattle.mm_with_lemmas.specs.WithLemmas.{AreSaidAlike}
use Rattle.mm_with_lemmas.specs.Mirror.Using.{HasName, IsTold}

-- two remarks say the same, of whatever statements they are
abbrev pub AreAlike : (own other : Remark) → Type 0
AreAlike own other =
    (files anew : List PlainFile) (s t : PlainStatement) → IsRemarkOf files s own
    → IsRemarkOf anew t other → AreSaidAlike files anew s t

-- the remark with the number says the same
abbrev pub HasAlike : List Remark → (id : ℕ) → (other : Remark) → Type 0
HasAlike remarks id other =
    (own : Remark) × (slice_get remarks id ≡ Some own) × AreAlike own other

-- among these, which are of the old statements, the one of the statement with the label of this
-- number says the same, if there is such a statement
abbrev pub IsRemarkKept : (old new : List Sentence) → List Remark → (id : ℕ) → (other : Remark)
    → Type 0
IsRemarkKept old new remarks id other =
    (label : List ℕ) → HasName new label id → IsTold old label
    → (former : ℕ) × HasName old label former × HasAlike remarks former other

-- so it is of each of the others
abbrev pub AreAllKept : (old new : List Sentence) → (remarks others : List Remark) → Type 0
AreAllKept old new remarks others =
    (id : ℕ) (other : Remark) → slice_get others id ≡ Some other
    → IsRemarkKept old new remarks id other
