-- Rows of words, which stand in one list. This file mirrors the code, and is cited by private
-- contracts alone.
use Rattle.std.specs.Prelude.{◌≡◌, ◌⊎◌, ℕ, ◌+◌, ◌<◌, ◌≤◌, List, length, slice_index_or}
use Rattle.std.specs.Prelude.{slice_get, slice_range, Some, true, Contains}
use Rattle.mm_axioms.specs.declared.bits.SetWord.{SetWord}
use Rattle.mm_axioms.specs.Mirror.Bits.{IsRow, has_number}

-- rows, as the words of all of them, and their bounds
pub record PlainRows : Type 0 where
  pub words : List SetWord
  pub bounds : List ℕ

-- what stands between two bounds that follow each other; nothing where there are none
abbrev pub row_at : List SetWord → (bounds : List ℕ) → ℕ → List SetWord
row_at words bounds n =
    slice_range words (slice_index_or bounds n 0) (slice_index_or bounds (n + 1) 0)

-- the row of a number
abbrev pub row_in : PlainRows → ℕ → List SetWord
row_in rows n = row_at rows.words rows.bounds n

-- the bounds are in order, the last of them is the end of the words, and each row is one
pub record AreBounds (words : List SetWord) (bounds : List ℕ) : Type 0 where
  pub some : 0 < length bounds
  pub last : (n : ℕ) → n + 1 ≡ length bounds → slice_index_or bounds n 0 ≡ length words
  pub order : (n : ℕ) → n + 1 < length bounds
      → slice_index_or bounds n 0 ≤ slice_index_or bounds (n + 1) 0
  pub within : (n : ℕ) → slice_index_or bounds n 0 ≤ length words
  pub rows : (n : ℕ) → IsRow (row_at words bounds n)

-- so many bounds, the further ones of which are this one
pub record IsPadded (old new : List ℕ) (count bound : ℕ) : Type 0 where
  pub long : length new ≡ count
  pub kept : (n : ℕ) → n < length old → slice_index_or new n 0 ≡ slice_index_or old n 0
  pub further : (n : ℕ) → length old ≤ n → n < count → slice_index_or new n 0 ≡ bound

-- the row of a number was put there, and the others are as they were
pub record IsRowPut (old : PlainRows) (number : ℕ) (row : List SetWord)
    (new : PlainRows) : Type 0 where
  pub count : length new.bounds ≤ number + 2
  pub own : row_in new number ≡ row
  pub others : (n : ℕ) → ¬ (n ≡ number) → row_in new n ≡ row_in old n

-- some of the numbers that are used has the index among these, or has it in its row
abbrev pub Reaches : PlainRows → (numbers used : List ℕ) → ℕ → Type 0
Reaches rows numbers used c =
    (n : ℕ) × Contains used n
    × ((slice_get numbers c ≡ Some n) ⊎ (has_number (row_in rows n) c ≡ true))

-- all indices in the rows are those of some numbers
abbrev pub AreNarrow : PlainRows → (count : ℕ) → Type 0
AreNarrow rows count = (n c : ℕ) → has_number (row_in rows n) c ≡ true → c < count

-- the number has an index before an end, which is in the row
abbrev pub ReachedBefore : (numbers : List ℕ) → List SetWord → (end n : ℕ) → Type 0
ReachedBefore numbers row end n =
    (c : ℕ) × (c < end) × (slice_get numbers c ≡ Some n) × (has_number row c ≡ true)
