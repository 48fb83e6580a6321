-- What stands behind the numbers of two books, by which they are compared. This file mirrors the
-- code, and is cited by private contracts alone.
use Rattle.std.specs.Prelude.{◌≡◌, ◌⊎◌, ◌<◌, ℕ, List, map, length, slice_get, Option, option_map}
use Rattle.std.specs.Prelude.{Contains, Some, take, ◌↔◌}
use Rattle.mm_base.specs.declared.statement.Kind.{Kind}
use Rattle.mm_frame.specs.declared.distinct.DistinctPair.{DistinctPair}
use Rattle.mm_frame.specs.declared.hypothesis.Hypothesis.{Hypothesis}
use Rattle.mm_frame.specs.declared.number.Sym.{Sym}
use Rattle.mm_frame.specs.Frame.{AreMandatory, IsMandatoryPair}
use Rattle.mm_frame.specs.Numbers.{labelled_sentences, symbols_of, IsNumbered}
use Rattle.mm_frame.specs.Sentence.{Sentence}
use Rattle.mm_alike.specs.Alike.{said}

-- the name of a symbol with a number
abbrev pub name_at : List Sentence → ℕ → Option (List ℕ)
name_at statements n = slice_get (symbols_of statements) n

-- the names of symbols
abbrev pub names_of : List Sentence → List Sym → List (Option (List ℕ))
names_of statements symbols = map (λ s. name_at statements s.0) symbols

-- each of the numbers is that of a symbol
abbrev pub AreSymbols : List Sentence → List Sym → Type 0
AreSymbols statements symbols =
    (i : ℕ) (s : Sym) → slice_get symbols i ≡ Some s → s.0 < length (symbols_of statements)

-- what the labelled statement with a number says
abbrev pub said_at : List Sentence → ℕ → Option (Kind × List (List ℕ))
said_at statements n = option_map said (slice_get (labelled_sentences statements) n)

-- what hypotheses say
abbrev pub said_of : List Sentence → List Hypothesis → List (Option (Kind × List (List ℕ)))
said_of statements hypotheses = map (λ h. said_at statements h.id.0) hypotheses

-- each of the numbers is that of a labelled statement
abbrev pub AreLabels : List Sentence → List Hypothesis → Type 0
AreLabels statements hypotheses =
    (i : ℕ) (h : Hypothesis) → slice_get hypotheses i ≡ Some h
    → h.id.0 < length (labelled_sentences statements)

-- the numbers of the variables of pairs
abbrev pub numbers_of_pairs : List DistinctPair → List (ℕ × ℕ)
numbers_of_pairs pairs = map (λ pair. (pair.variables.0.0, pair.variables.1.0)) pairs

-- each of the numbers is that of a symbol
abbrev pub ArePairsOfSymbols : List Sentence → List (ℕ × ℕ) → Type 0
ArePairsOfSymbols statements pairs =
    (p : ℕ × ℕ) → Contains pairs p
    → (p.0 < length (symbols_of statements)) × (p.1 < length (symbols_of statements))

-- pairs of two books have the same names, in one order or the other
abbrev pub IsPairOfNames : (old new : List Sentence) → (p q : ℕ × ℕ) → Type 0
IsPairOfNames old new p q =
    ((name_at old p.0 ≡ name_at new q.0) × (name_at old p.1 ≡ name_at new q.1))
    ⊎ ((name_at old p.0 ≡ name_at new q.1) × (name_at old p.1 ≡ name_at new q.0))

-- the pair is among these, by its names
abbrev pub IsPairAmong : (old new : List Sentence) → (p : ℕ × ℕ) → (qs : List (ℕ × ℕ)) → Type 0
IsPairAmong old new p qs = (q : ℕ × ℕ) × Contains qs q × IsPairOfNames old new p q

-- each of the pairs is
abbrev pub ArePairsAmong : (old new : List Sentence) → (ps qs : List (ℕ × ℕ)) → Type 0
ArePairsAmong old new ps qs = (p : ℕ × ℕ) → Contains ps p → IsPairAmong old new p qs

-- the assertions with these numbers have hypotheses that say the same, one after the other
pub record HaveSameHypotheses (old new : List Sentence) (one other : ℕ) : Type 0 where
  pub i : ℕ
  pub s : Sentence
  pub numbered : IsNumbered old one i s
  pub j : ℕ
  pub t : Sentence
  pub other_numbered : IsNumbered new other j t
  pub hypotheses : List Sentence
  pub mandatory : AreMandatory (take i old) s hypotheses
  pub other_hypotheses : List Sentence
  pub other_mandatory : AreMandatory (take j new) t other_hypotheses
  pub premises : map said hypotheses ≡ map said other_hypotheses

-- they have the same mandatory distinct pairs
pub record HaveSamePairs (old new : List Sentence) (one other : ℕ) : Type 0 where
  pub i : ℕ
  pub s : Sentence
  pub numbered : IsNumbered old one i s
  pub j : ℕ
  pub t : Sentence
  pub other_numbered : IsNumbered new other j t
  pub pairs : (x y : List ℕ) → IsMandatoryPair (take i old) s x y
      ↔ IsMandatoryPair (take j new) t x y
