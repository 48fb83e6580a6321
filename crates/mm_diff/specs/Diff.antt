-- What changed between two versions of a database, by label: the assertions that are gone, those
-- that were added, those that say something else under the same label, those that say the same but
-- whose proof spells another tree, those that got another label, those that were moved, and the
-- theorems that depend on further axioms or on fewer. It is this project's own; what an assertion
-- says besides its own expression is its frame (the Metamath book, section 4.2.7), the trees are
-- those of proofs (sections 4.1.4 and 4.3), and what a theorem depends on is that of `Rests` of
-- `mm_rules`.
use Rattle.std.specs.Prelude.{◌≡◌, ◌⊎◌, ◌<◌, ◌≤◌, ◌+◌, ◌-◌, ℕ, List, map, length}
use Rattle.std.specs.Prelude.{if◌then◌else◌, ◌==◌}
use Rattle.std.specs.Prelude.{[], ◌∷◌, ◌++◌, Some, slice_get, codes, decimal}
use Rattle.std.specs.List.{AllByRecursion, flat_map}
use Rattle.mm_base.specs.declared.statement.Kind.TheVariants.{Axiom, Provable}
use Rattle.mm_base.specs.Statement.{PlainStatement}
use Rattle.mm_frame.specs.Sentence.{Sentence}
use Rattle.mm_rules.specs.Answer.{labels_at}
use Rattle.mm_rules.specs.Conclusion.{labels_in}
use Rattle.mm_rules.specs.Rests.{AreInOrder, IsNumberWhere, RestsOn, Uses}
use Rattle.mm_rules.specs.Verdict.{sentences}
use Rattle.mm_verdict.specs.Reply.{line_with}
use Rattle.mm_alike.specs.Alike.{IsAssertionNamed, said, AreAlike, IsAlone, IsChanged, IsReproved, IsShared}

-- ---- renamed

-- of the assertions of the other database whose labels aren't here, the one with the second number
-- alone says the same as that with the first
abbrev pub IsOnlyAlike : (statements others : List Sentence) → (id n : ℕ) → Type 0
IsOnlyAlike statements others id n =
    IsAlone others statements n × AreAlike statements others id n
    × ((m : ℕ) → IsAlone others statements m → AreAlike statements others id m → m ≡ n)

-- The assertions with these numbers are one under two labels: the first alone, of those whose labels
-- the other database lacks, says the same as the second, and the second alone says the same as the
-- first.
abbrev pub IsRenamed : (statements others : List Sentence) → (id n : ℕ) → Type 0
IsRenamed statements others id n =
    IsOnlyAlike statements others id n × IsOnlyAlike others statements n id

-- the label of the assertion with a number is that of no assertion of the other database, and it
-- stands there under no other label
abbrev pub IsMissing : (statements others : List Sentence) → ℕ → Type 0
IsMissing statements others id =
    IsAlone statements others id × ((n : ℕ) → ¬ (IsRenamed statements others id n))

-- the pairs of numbers of those that are renamed, in the old database and in the new one, in the
-- order of the new one
pub record AreRenamed (old new : List Sentence) (pairs : List (ℕ × ℕ)) : Type 0 where
  pub order : AreInOrder (λ n. (m : ℕ) × IsRenamed old new m n) (map (λ p. p.1) pairs)
  pub each : AllByRecursion (λ p. IsRenamed old new p.0 p.1) pairs

-- ---- moved

-- before the assertion with a number stand so many of those whose labels both databases have, and it
-- is one of these
abbrev pub HasPlace : (statements others : List Sentence) → (id place : ℕ) → Type 0
HasPlace statements others id place =
    (ids : List ℕ) × AreInOrder (IsShared statements others) ids × (slice_get ids place ≡ Some id)

-- the assertion with a number of the new database has this place there, and the one with its label
-- had that place in the old database
abbrev pub HasPlaces : (old new : List Sentence) → (id was is : ℕ) → Type 0
HasPlaces old new id was is =
    HasPlace new old id is
    × (label : List ℕ) × IsAssertionNamed new label id
    × (former : ℕ) × IsAssertionNamed old label former × HasPlace old new former was

-- how far apart two places are
abbrev pub distance : ℕ → ℕ → ℕ
distance a b = (a - b) + (b - a)

-- one stood before the other, and now stands behind it
abbrev pub HaveTurned : (was is other_was other_is : ℕ) → Type 0
HaveTurned was is other_was other_is =
    ((was < other_was) × (other_is < is)) ⊎ ((other_was < was) × (is < other_is))

-- The assertion with a number of the new database was moved: it stands on the other side of one that
-- is no further from its place than it is. So what is passed by something that moves far wasn't
-- moved.
pub record IsMoved (old new : List Sentence) (id : ℕ) : Type 0 where
  pub was : ℕ
  pub is : ℕ
  pub places : HasPlaces old new id was is
  pub other : ℕ
  pub other_was : ℕ
  pub other_is : ℕ
  pub other_places : HasPlaces old new other other_was other_is
  pub turned : HaveTurned was is other_was other_is
  pub nearer : distance other_was other_is ≤ distance was is

-- ---- what theorems depend on

-- the assertions with these numbers are one in both databases: they have one label, or are renamed
abbrev pub IsOne : (statements others : List Sentence) → (id n : ℕ) → Type 0
IsOne statements others id n =
    ((label : List ℕ) × IsAssertionNamed statements label id × IsAssertionNamed others label n)
    ⊎ IsRenamed statements others id n

-- so are the theorems with these numbers
abbrev pub IsOneTheorem : (statements others : List PlainStatement) → (id n : ℕ) → Type 0
IsOneTheorem statements others id n =
    IsOne (sentences statements) (sentences others) id n
    × IsNumberWhere statements (λ s. s.kind ≡ Provable) id
    × IsNumberWhere others (λ s. s.kind ≡ Provable) n

-- the second number is that of an axiom on which the theorem with the first depends
abbrev pub DependsOn : List PlainStatement → (theorem axiom_id : ℕ) → Type 0
DependsOn statements theorem axiom_id =
    IsNumberWhere statements (λ s. s.kind ≡ Axiom) axiom_id
    × RestsOn (Uses statements) theorem axiom_id

-- the theorem depends on the axiom, and that of the other database doesn't, be it under its label
-- there
abbrev pub IsFurther : (statements others : List PlainStatement) → (theorem other axiom_id : ℕ)
    → Type 0
IsFurther statements others theorem other axiom_id =
    DependsOn statements theorem axiom_id
    × ((n : ℕ) → IsOne (sentences statements) (sentences others) axiom_id n
    → ¬ (DependsOn others other n))

-- The theorem of the new database with a number was one of the old one, which didn't depend on these
-- of the axioms of the new one; on all others it did. There is one at least.
abbrev pub DependsFurther : (old new : List PlainStatement) → (id : ℕ) → (axioms : List ℕ)
    → Type 0
DependsFurther old new id axioms =
    (former : ℕ) × IsOneTheorem new old id former
    × AreInOrder (IsFurther new old id former) axioms × ¬ (axioms ≡ [])

-- The other way round: it was a theorem of the old one that depended on these of the axioms there,
-- on which it doesn't depend now.
abbrev pub DependsLess : (old new : List PlainStatement) → (id : ℕ) → (axioms : List ℕ) → Type 0
DependsLess old new id axioms =
    (former : ℕ) × IsOneTheorem new old id former
    × AreInOrder (IsFurther old new former id) axioms × ¬ (axioms ≡ [])

-- the theorems of which something is told, in the order of the database, and the axioms that are
-- told of each
pub record AreTold (Tells : ℕ → List ℕ → Type 0) (told : List (ℕ × List ℕ)) : Type 0 where
  pub order : AreInOrder (λ id. (axioms : List ℕ) × Tells id axioms) (map (λ p. p.0) told)
  pub each : AllByRecursion (λ p. Tells p.0 p.1) told

-- ---- all changes

-- Numbers of assertions: in the old database of those that are gone; in the new one of those that
-- were added, are changed, are reproved, and were moved. Of those that are renamed the numbers in
-- both. Of theorems that depend on others the numbers in the new one, each with those of axioms: of
-- the new one if further, of the old one if no longer.
pub record PlainChanges : Type 0 where
  pub gone : List ℕ
  pub added : List ℕ
  pub changed : List ℕ
  pub reproved : List ℕ
  pub renamed : List (ℕ × ℕ)
  pub moved : List ℕ
  pub further : List (ℕ × List ℕ)
  pub less : List (ℕ × List ℕ)

-- what changed, in the order of the one database or of the other
pub record AreChanges (old new : List PlainStatement) (c : PlainChanges) : Type 0 where
  pub are_gone : AreInOrder (IsMissing (sentences old) (sentences new)) c.gone
  pub are_added : AreInOrder (IsMissing (sentences new) (sentences old)) c.added
  pub are_changed : AreInOrder (IsChanged (sentences new) (sentences old)) c.changed
  pub are_reproved : AreInOrder (IsReproved new old) c.reproved
  pub are_renamed : AreRenamed (sentences old) (sentences new) c.renamed
  pub are_moved : AreInOrder (IsMoved (sentences old) (sentences new)) c.moved
  pub are_further : AreTold (DependsFurther old new) c.further
  pub are_less : AreTold (DependsLess old new) c.less

-- ---- how it is told

-- a line for each label, a letter before it
abbrev pub letter_lines : (letter : List ℕ) → (labels : List (List ℕ)) → List ℕ
letter_lines letter labels = flat_map (λ label. line_with letter (label ∷ [])) labels

-- a line for each pair of numbers, with the labels in the old database and in the new one
abbrev pub renamed_lines : (old new : List (List ℕ)) → (pairs : List (ℕ × ℕ)) → List ℕ
renamed_lines old new pairs =
    flat_map (λ p. line_with (codes "R") (labels_at old (p.0 ∷ []) ++ labels_at new (p.1 ∷ [])))
    pairs

-- a line for each theorem, a letter before its label, and behind it those of axioms
abbrev pub axiom_lines : (letter : List ℕ) → (labels axiom_labels : List (List ℕ))
    → (told : List (ℕ × List ℕ)) → List ℕ
axiom_lines letter labels axiom_labels told =
    flat_map (λ p. line_with letter (labels_at labels (p.0 ∷ []) ++ labels_at axiom_labels p.1))
    told

-- the last line: how many there are of each
abbrev pub sums_line : PlainChanges → List ℕ
sums_line c =
    line_with (codes "differ")
    (decimal (length c.gone) ∷ codes "gone" ∷ decimal (length c.added) ∷ codes "added"
    ∷ decimal (length c.changed) ∷ codes "changed"
    ∷ decimal (length c.reproved) ∷ codes "reproved"
    ∷ decimal (length c.renamed) ∷ codes "renamed" ∷ decimal (length c.moved) ∷ codes "moved"
    ∷ decimal (length c.further) ∷ codes "further" ∷ decimal (length c.less) ∷ codes "less" ∷ [])

-- a line for each of them, and the sums
abbrev pub changes_text : (old new : List (List ℕ)) → PlainChanges → List ℕ
changes_text old new c =
    letter_lines (codes "G") (labels_at old c.gone)
    ++ letter_lines (codes "A") (labels_at new c.added)
    ++ letter_lines (codes "C") (labels_at new c.changed)
    ++ letter_lines (codes "P") (labels_at new c.reproved)
    ++ renamed_lines old new c.renamed
    ++ letter_lines (codes "M") (labels_at new c.moved)
    ++ axiom_lines (codes "F") new new c.further
    ++ axiom_lines (codes "L") new old c.less
    ++ sums_line c

-- nothing changed
abbrev pub no_changes : PlainChanges
no_changes = record {
  gone = [];
  added = [];
  changed = [];
  reproved = [];
  renamed = [];
  moved = [];
  further = [];
  less = [];
}

-- how many there are in all
abbrev pub total : PlainChanges → ℕ
total c =
    length c.gone + length c.added + length c.changed + length c.reproved + length c.renamed
    + length c.moved + length c.further + length c.less

-- 0 where nothing changed, else 1
abbrev pub changes_status : PlainChanges → ℕ
changes_status c = if total c == 0 then 0 else 1

-- this is what is told of what changed, and the status
pub record TellsChanges (old new : List PlainStatement) (text : List ℕ) (status : ℕ) : Type 0 where
  pub changes : PlainChanges
  pub are : AreChanges old new changes
  pub said : text ≡ changes_text (labels_in (sentences old)) (labels_in (sentences new)) changes
  pub ends : status ≡ changes_status changes
