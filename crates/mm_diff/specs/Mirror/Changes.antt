-- What changed, as the reply to `mm diff` keeps it, and what is known of places on the way. This file
-- mirrors the code, and is cited by private contracts alone.
use Rattle.std.specs.Prelude.{◌≡◌, ◌<◌, ◌≤◌, ℕ, List, map, length, slice_get, Some, ◌++◌}
use Rattle.std.specs.Prelude.{codes, decimal}
use Rattle.std.specs.List.{AllByRecursion, flat_map}
use Rattle.mm_frame.specs.Sentence.{Sentence}
use Rattle.mm_diff.specs.declared.renamed.Renaming.{Renaming}
use Rattle.mm_diff.specs.declared.changes.Changes.{Changes}
use Rattle.mm_diff.specs.declared.depends.Dependence.{Dependence}
use Rattle.mm_diff.specs.Diff.{HaveTurned, PlainChanges, distance}
use Rattle.mm_alike.specs.Alike.{IsAssertionNamed}

-- the numbers of one that is renamed, in the other database and in its own
abbrev pub plain_renaming : Renaming → ℕ × ℕ
plain_renaming r = (r.other.0, r.id.0)

-- the number of a theorem, and those of axioms
abbrev pub plain_dependence : Dependence → ℕ × List ℕ
plain_dependence d = (d.theorem.0, map (λ l. l.0) d.axioms.items)

-- the number of a theorem is that of a label, and so are those of its axioms
abbrev pub AreNumbersOf : (labels axiom_labels : List (List ℕ)) → ℕ × List ℕ → Type 0
AreNumbersOf labels axiom_labels p =
    (p.0 < length labels) × AllByRecursion (λ n. n < length axiom_labels) p.1

-- the numbers of those that changed
abbrev pub plain_changes : Changes → PlainChanges
plain_changes c = record {
  gone = map (λ l. l.0) c.gone.items;
  added = map (λ l. l.0) c.added.items;
  changed = map (λ l. l.0) c.changed.items;
  reproved = map (λ l. l.0) c.reproved.items;
  renamed = map plain_renaming c.renamed.items;
  moved = map (λ l. l.0) c.moved.items;
  further = map plain_dependence c.further.items;
  less = map plain_dependence c.less.items;
}

-- each of the numbers is that of a label
pub record AreWithin (old new : List (List ℕ)) (c : PlainChanges) : Type 0 where
  pub gone : AllByRecursion (λ n. n < length old) c.gone
  pub added : AllByRecursion (λ n. n < length new) c.added
  pub changed : AllByRecursion (λ n. n < length new) c.changed
  pub reproved : AllByRecursion (λ n. n < length new) c.reproved
  pub renamed : AllByRecursion (λ p. (p.0 < length old) × (p.1 < length new)) c.renamed
  pub moved : AllByRecursion (λ n. n < length new) c.moved
  pub further : AllByRecursion (AreNumbersOf new new) c.further
  pub less : AllByRecursion (AreNumbersOf new old) c.less

-- a space and the label, for each
abbrev pub spaced_labels : List (List ℕ) → List ℕ
spaced_labels labels = flat_map (λ label. codes " " ++ label) labels

-- a number, and a word behind it
abbrev pub sum_words : (count : ℕ) → (word : List ℕ) → List ℕ
sum_words count word = codes " " ++ decimal count ++ codes " " ++ word

-- ---- places

-- the assertion with a number has the label of one that stands at this index among these of the old
-- database
abbrev pub StandsAt : (old new : List Sentence) → (before : List ℕ) → (id place : ℕ) → Type 0
StandsAt old new before id place =
    (label : List ℕ) × IsAssertionNamed new label id
    × (former : ℕ) × IsAssertionNamed old label former × (slice_get before place ≡ Some former)

-- Of what stands at an index, and stood at the places before, that at the other index stood on the
-- other side, and is no further from its place.
pub record IsPassedBy (places : List ℕ) (at other : ℕ) : Type 0 where
  pub was : ℕ
  pub there : slice_get places at ≡ Some was
  pub other_was : ℕ
  pub other_there : slice_get places other ≡ Some other_was
  pub turned : HaveTurned was at other_was other
  pub nearer : distance other_was other ≤ distance was at

-- there is such a one
abbrev pub IsMovedAt : (places : List ℕ) → (at : ℕ) → Type 0
IsMovedAt places at = (other : ℕ) × IsPassedBy places at other

-- the number stands at the index of one that is moved
abbrev pub IsMovedAmong : (ids places : List ℕ) → ℕ → Type 0
IsMovedAmong ids places n =
    (at : ℕ) × (slice_get ids at ≡ Some n) × IsMovedAt places at
