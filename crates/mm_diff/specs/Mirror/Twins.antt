-- Assertions that are one in two databases, by tables, and those of them that depend on the same.
-- This file mirrors the code, and is cited by private contracts alone.
use Rattle.std.specs.Prelude.{◌≡◌, ◌↔◌, ℕ, List, Bool, Option, Some, Contains, slice_get}
use Rattle.mm_frame.specs.declared.number.LabelId.{LabelId}
use Rattle.mm_frame.specs.Sentence.{Sentence}
use Rattle.mm_rules.specs.Conclusion.{Conclusion}
use Rattle.mm_rules.specs.Mirror.Marks.{IsAxiomNumber, IsMarked, UsedIn}
use Rattle.mm_diff.specs.Diff.{IsOne, IsRenamed}

-- ---- tables

-- the second number is that of one that is renamed, and the first is its number in the other database
abbrev pub IsRenamedBy : (pairs : List (ℕ × ℕ)) → (n id : ℕ) → Type 0
IsRenamedBy pairs n id = Contains pairs (n, id)

-- these are the pairs of numbers of all that are renamed
abbrev pub TellRenamed : (others statements : List Sentence) → (pairs : List (ℕ × ℕ)) → Type 0
TellRenamed others statements pairs =
    (n id : ℕ) → IsRenamedBy pairs n id ↔ IsRenamed others statements n id

-- the pair with its numbers exchanged
abbrev pub turned : ℕ × ℕ → ℕ × ℕ
turned p = (p.1, p.0)

-- a table has the second number at the first
abbrev pub IsTwinAt : (twins : List (Option LabelId)) → (id n : ℕ) → Type 0
IsTwinAt twins id n = (l : LabelId) × (slice_get twins id ≡ Some (Some l)) × (l.0 ≡ n)

-- a table has, for each assertion, that of the other database which is one with it
abbrev pub AreTwins : (statements others : List Sentence) → (twins : List (Option LabelId))
    → Type 0
AreTwins statements others twins =
    (id n : ℕ) → IsTwinAt twins id n ↔ IsOne statements others id n

-- ---- those that depend on the same

-- the first is one with the second, and is marked
abbrev pub IsUsedAlike : (twins : List (Option LabelId)) → (marks : List Bool) → (id n : ℕ)
    → Type 0
IsUsedAlike twins marks id n = IsTwinAt twins id n × IsMarked marks id

-- An assertion of the first database and one of the second: both are axioms or none is, and what the
-- proof of the one uses is one with what that of the other uses, and is marked.
pub record StaysAs (c d : Conclusion) (twins : List (Option LabelId)) (marks : List Bool)
    (id former : ℕ) : Type 0 where
  pub axioms : IsAxiomNumber c.sentences id ↔ IsAxiomNumber d.sentences former
  pub used : (u : ℕ) → UsedIn c.uses id u
      → (n : ℕ) × IsUsedAlike twins marks u n × UsedIn d.uses former n
  pub others : (n : ℕ) → UsedIn d.uses former n
      → (u : ℕ) × IsUsedAlike twins marks u n × UsedIn c.uses id u

-- each that is marked stays as one of the second database is
abbrev pub StayThose : (c d : Conclusion) → (twins : List (Option LabelId)) → (marks : List Bool)
    → Type 0
StayThose c d twins marks =
    (id : ℕ) → IsMarked marks id
    → (former : ℕ) × IsTwinAt twins id former × StaysAs c d twins marks id former
