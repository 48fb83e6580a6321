-- The pairs that `$d` state, and how they are linked. This file mirrors the code, and is cited by
-- private contracts, and by the model and invariant of `Pairs`.
use Rattle.std.specs.Prelude.{◌≡◌, ◌≢◌, ℕ, ◌+◌, ◌*◌, ◌<◌, ◌≤◌, List, length, slice_get, take}
use Rattle.std.specs.Prelude.{slice_index_or, Option, Some, None, Bool, ◌==◌, ◌&&◌}
use Rattle.std.specs.Prelude.{if◌then◌else◌, nat_lt}
use Rattle.indexmap.specs.IndexMap.{IndexMap, get}
use Rattle.mm_frame.specs.declared.pairs.Span.{Span}
use Rattle.mm_frame.specs.declared.wide.WideDistinct.{WideDistinct}
use Rattle.mm_frame.specs.Sentence.{Sentence}
use Rattle.mm_frame.specs.Active.{IsActive}

-- a `$d` states a pair: the numbers of the two variables, the lesser one first, and the index of
-- the `$d`
pub record Stated : Type 0 where
  pub pair : ℕ × ℕ
  pub index : ℕ

abbrev pub stated_by : Span → Stated
stated_by span = record { pair = span.pair; index = span.index }

-- what `$d` state: pairs, and the `$d` of many variables as they are
pub record AllStated : Type 0 where
  pub pairs : List Stated
  pub wide : List WideDistinct

-- what is seen of the pairs: what is stated, and for how many more pairs there is room
pub record PairTable : Type 0 where
  pub stated : AllStated
  pub room : ℕ

-- the index before another that states the pair last, if there is one
abbrev pub IsLatestStated : List Stated → ℕ × ℕ → ℕ → Option ℕ → Type 0
IsLatestStated spans pair before None =
    (j : ℕ) (other : Stated) → slice_get spans j ≡ Some other → other.pair ≡ pair
    → before ≤ other.index
IsLatestStated spans pair before (Some index) =
    (i : ℕ) × (span : Stated) × (slice_get spans i ≡ Some span) × (span.pair ≡ pair)
    × (span.index ≡ index) × (index < before)
    × ((j : ℕ) (other : Stated) → i < j → slice_get spans j ≡ Some other → other.pair ≡ pair
    → before ≤ other.index)

-- a `$d` before an index that is active there states the pair
pub record HasSpan (statements : List Sentence) (spans : List Stated) (pair : ℕ × ℕ)
    (before : ℕ) : Type 0 where
  pub i : ℕ
  pub span : Stated
  pub there : slice_get spans i ≡ Some span
  pub same : span.pair ≡ pair
  pub early : span.index < before
  pub active : IsActive (take before statements) span.index

-- the last of the first so many spans that has the pair, if there is one
abbrev pub IsLastSpan : List Span → ℕ → ℕ × ℕ → Option ℕ → Type 0
IsLastSpan spans n pair None =
    (j : ℕ) (span : Span) → j < n → slice_get spans j ≡ Some span → span.pair ≢ pair
IsLastSpan spans n pair (Some k) =
    (k < n) × ((span : Span) × (slice_get spans k ≡ Some span) × (span.pair ≡ pair))
    × ((j : ℕ) (span : Span) → k < j → j < n → slice_get spans j ≡ Some span → span.pair ≢ pair)

abbrev pub is_same_key : ℕ × ℕ → ℕ × ℕ → Bool
is_same_key p q = (p.0 == q.0) && (p.1 == q.1)

-- each span names the one of its pair before it
abbrev pub AreOlder : List Span → Type 0
AreOlder spans =
    (i : ℕ) (span : Span) → slice_get spans i ≡ Some span → IsLastSpan spans i span.pair span.older

-- the index in the table of a pair of two numbers that are below 256
abbrev pub near_index : ℕ × ℕ → Option ℕ
near_index p =
    if (nat_lt p.0 256) && (nat_lt p.1 256) then Some (p.0 * 256 + p.1) else None

-- what the table has of an index of it, or else what the map has
abbrev pub newest_in : List (Option ℕ) → Option ℕ → Option ℕ → Option ℕ
newest_in near None far = far
newest_in near (Some index) far =
    if nat_lt index (length near) then slice_index_or near index None else far

-- the number of the newest span of a pair
abbrev pub newest_of : {S : Type 0} → List (Option ℕ) → IndexMap (ℕ × ℕ) ℕ S → ℕ × ℕ → Option ℕ
newest_of {S} near far p = newest_in near (near_index p) (get is_same_key far p)

-- each span names the one of its pair before it, and of each pair the newest one is known
pub record AreLinked (spans : List Span) (newest : ℕ × ℕ → Option ℕ) : Type 0 where
  pub last : (pair : ℕ × ℕ) → IsLastSpan spans (length spans) pair (newest pair)
  pub older : AreOlder spans
