-- What the code knows of what theorems rest on in two databases, by labels and by what is kept of
-- these. This file mirrors the code.
use Rattle.std.specs.Prelude.{◌≡◌, ℕ, List, Option, Some, Contains, slice_get}
use Rattle.mm_frame.specs.declared.number.LabelId.{LabelId}
use Rattle.mm_frame.specs.Sentence.{Sentence}
use Rattle.mm_rules.specs.Conclusion.{Conclusion, ProofUses}
use Rattle.mm_rules.specs.Mirror.Marks.{UsedIn}
use Rattle.mm_rules.specs.Rests.{RestsOn}
use Rattle.mm_axioms.specs.Mirror.Shortening.{IsLoose}
use Rattle.mm_axioms.specs.Mirror.Tables.{AreTables}
use Rattle.mm_with_lemmas.specs.declared.founded.Both.{Both}
use Rattle.mm_with_lemmas.specs.Mirror.Using.{HasName, IsTold}

-- ---- labels

-- what is the label of the statement with a number of the new database is that of the statement
-- with the other number of the old one
abbrev pub IsFormer : (old new : List Sentence) → (id former : ℕ) → Type 0
IsFormer old new id former = (label : List ℕ) → HasName new label id → HasName old label former

-- so it is of each number that a table has at another
abbrev pub AreFormers : (old new : List Sentence) → List (Option LabelId) → Type 0
AreFormers old new formers =
    (id : ℕ) (former : LabelId) → slice_get formers id ≡ Some (Some former)
    → IsFormer old new id former.0

-- the number that the table has at another is among these
abbrev pub HasFormerAmong : List (Option LabelId) → (others : List ℕ) → (id : ℕ) → Type 0
HasFormerAmong formers others id =
    (former : LabelId) × (slice_get formers id ≡ Some (Some former)) × Contains others former.0

-- ---- what theorems rest on

-- the tables are those of both databases
pub record IsOfBoth (c d : Conclusion) (both : Both) : Type 0 where
  pub old_tables : AreTables c.sentences c.incomplete c.uses both.old_tables
  pub new_tables : AreTables d.sentences d.incomplete d.uses both.new_tables
  pub formers : AreFormers c.sentences d.sentences both.formers.items

-- the statement rests on the axiom, or on the unproved theorem, with the second number
abbrev pub RestsOnIn : Conclusion → (id n : ℕ) → Type 0
RestsOnIn c id n = IsLoose c.sentences c.incomplete n × RestsOn (UsedIn c.uses) id n

-- by their labels, the statement with a number of the first database rests on all on which that
-- with the other one of the second database rests
abbrev pub IsFoundedBy : (c d : Conclusion) → (former id : ℕ) → Type 0
IsFoundedBy c d former id =
    (n : ℕ) → RestsOnIn d id n
    → (m : ℕ) × IsFormer c.sentences d.sentences n m × RestsOnIn c former m

-- so it is of the theorem of a proof of the second database, if it was there
abbrev pub IsProofFounded : (c d : Conclusion) → ProofUses → Type 0
IsProofFounded c d u =
    (label : List ℕ) → HasName d.sentences label u.number → IsTold c.sentences label
    → (former : ℕ) × HasName c.sentences label former × IsFoundedBy c d former u.number
