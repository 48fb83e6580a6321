-- What differs in the axioms on which theorems of two databases depend, as it is kept and told. This
-- file mirrors the code, and is cited by private contracts alone.
use Rattle.std.specs.Prelude.{◌≡◌, ◌⊎◌, ℕ, List, [], ◌∷◌, Bool, Option, Contains, map}
use Rattle.mm_frame.specs.declared.number.LabelId.{LabelId}
use Rattle.mm_frame.specs.Sentence.{Sentence}
use Rattle.mm_rules.specs.Conclusion.{Conclusion}
use Rattle.mm_rules.specs.Rests.{AreInOrder, RestsOn}
use Rattle.mm_rules.specs.Mirror.Marks.{IsAxiomNumber, IsMarked, UsedIn}
use Rattle.mm_axioms.specs.Mirror.Tables.{AreTables}
use Rattle.mm_diff.specs.declared.depends.Dependences.{Dependences}
use Rattle.mm_diff.specs.declared.depends.Side.{Side}
use Rattle.mm_diff.specs.Diff.{AreTold, IsOne}
use Rattle.mm_diff.specs.Mirror.Changes.{plain_dependence}
use Rattle.mm_alike.specs.Mirror.Databases.{IsTheorem}
use Rattle.mm_diff.specs.Mirror.Twins.{AreTwins, IsTwinAt}

-- ---- by what is kept of two databases

-- the second number is that of an axiom on which the theorem with the first depends
abbrev pub DependsOnIn : Conclusion → (theorem axiom_id : ℕ) → Type 0
DependsOnIn c theorem axiom_id =
    IsAxiomNumber c.sentences axiom_id × RestsOn (UsedIn c.uses) theorem axiom_id

-- the theorem depends on the axiom, and that of the other database doesn't
abbrev pub IsFurtherIn : (c d : Conclusion) → (theorem other axiom_id : ℕ) → Type 0
IsFurtherIn c d theorem other axiom_id =
    DependsOnIn c theorem axiom_id
    × ((n : ℕ) → IsOne c.sentences d.sentences axiom_id n → ¬ (DependsOnIn d other n))

-- the theorems with these numbers are one in both databases
abbrev pub IsOneTheoremIn : (statements others : List Sentence) → (id n : ℕ) → Type 0
IsOneTheoremIn statements others id n =
    IsOne statements others id n × IsTheorem statements id × IsTheorem others n

-- the theorem with a number is one with another, and this is so of these axioms and of no others
abbrev pub Tells : (Pair : (id former : ℕ) → Type 0) → (Differ : (id former axiom_id : ℕ) → Type 0)
    → (id : ℕ) → (axioms : List ℕ) → Type 0
Tells Pair Differ id axioms =
    (former : ℕ) × Pair id former × AreInOrder (Differ id former) axioms × ¬ (axioms ≡ [])

-- the theorem of the new database depends further on these axioms of it
abbrev pub TellsFurther : (old new : Conclusion) → (id : ℕ) → (axioms : List ℕ) → Type 0
TellsFurther old new =
    Tells (IsOneTheoremIn new.sentences old.sentences) (λ id former. IsFurtherIn new old id former)

-- it depends no longer on these axioms of the old one
abbrev pub TellsLess : (old new : Conclusion) → (id : ℕ) → (axioms : List ℕ) → Type 0
TellsLess old new =
    Tells (IsOneTheoremIn new.sentences old.sentences) (λ id former. IsFurtherIn old new former id)

-- what is told of the theorems of the new database
pub record AreDependences (old new : Conclusion) (d : Dependences) : Type 0 where
  pub further : AreTold (TellsFurther old new) (map plain_dependence d.further.items)
  pub less : AreTold (TellsLess old new) (map plain_dependence d.less.items)

-- ---- on the way

-- the assertion that is one with this one is among others
abbrev pub HasTwinAmong : (twins : List (Option LabelId)) → (others : List ℕ) → (id : ℕ) → Type 0
HasTwinAmong twins others id = (n : ℕ) × IsTwinAt twins id n × Contains others n

-- the tables of one database, beside the other
pub record IsSide (c d : Conclusion) (side : Side) : Type 0 where
  pub tables : AreTables c.sentences c.incomplete c.uses side.tables
  pub twins : AreTwins c.sentences d.sentences side.twins.items

-- the theorem with a number is one with another, and isn't marked
abbrev pub IsUnsettled : (statements others : List Sentence) → (twins : List (Option LabelId))
    → (marks : List Bool) → (id : ℕ) → Type 0
IsUnsettled statements others twins marks id =
    (¬ (IsMarked marks id)) × IsTheorem statements id
    × (former : ℕ) × IsTwinAt twins id former × IsTheorem others former

-- a theorem of the one database depends on the same axioms as that of the other
abbrev pub IsSettled : (c d : Conclusion) → (id other : ℕ) → Type 0
IsSettled c d id other =
    ((n : ℕ) → ¬ (IsFurtherIn c d id other n)) × ((n : ℕ) → ¬ (IsFurtherIn d c other id n))

-- each theorem of both databases is one of these, or depends on the same axioms in both
abbrev pub AreOthersSettled : (old new : Conclusion) → (ids : List ℕ) → Type 0
AreOthersSettled old new ids =
    (id former : ℕ) → IsOneTheoremIn new.sentences old.sentences id former
    → Contains ids id ⊎ IsSettled new old id former

-- what is told of a theorem, if there is anything
abbrev pub told_of : (id : ℕ) → (axioms : List ℕ) → List (ℕ × List ℕ)
told_of id [] = []
told_of id (axiom_id ∷ axioms) = (id, axiom_id ∷ axioms) ∷ []
