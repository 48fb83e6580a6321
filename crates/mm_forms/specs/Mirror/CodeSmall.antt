-- What the code of small proofs knows on its way: it mirrors the code.
use Rattle.std.specs.Prelude.{◌≡◌, ℕ, ◌+◌, ◌<◌, ◌==◌, List, length, slice_get, slice_index_or}
use Rattle.std.specs.Prelude.{count_by, Bool, false, Some, ◌⊎◌}
use Rattle.std.specs.List.{AllZip}
use Rattle.std.specs.List.Sorted.{IsPermutation}
use Rattle.mm_code.specs.declared.code.Code.{Code}
use Rattle.mm_code.specs.declared.code.Code.TheVariants.{Number, Tag}
use Rattle.mm_frame.specs.declared.number.LabelId.{LabelId}
use Rattle.mm_forms.specs.declared.small.LabelUse.{LabelUse}

-- the code is this number
abbrev pub is_number_of : ℕ → Code → Bool
is_number_of number (Number other) = number == other
is_number_of number Tag = false

-- how often the number stands among the codes
abbrev pub times : ℕ → List Code → ℕ
times number codes = count_by (is_number_of number) codes

-- the code is the number of the listed label at the index, behind those of so many hypotheses
abbrev pub IsListed : (own index : ℕ) → Code → Type 0
IsListed own index code = code ≡ Number (own + index + 1)

-- each entry has its index, and how often the codes use the listed label there
abbrev pub AreLabelUses : (own : ℕ) → List Code → List LabelUse → Type 0
AreLabelUses own codes uses =
    (k : ℕ) (d : LabelUse) → k < length uses
    → ((slice_index_or uses k d).index ≡ k)
    × ((slice_index_or uses k d).uses ≡ times (own + k + 1) codes)

-- the first is used more, or as often and listed before
abbrev pub ComesFirst : LabelUse → LabelUse → Type 0
ComesFirst a b = (b.uses < a.uses) ⊎ ((a.uses ≡ b.uses) × (a.index < b.index))

-- each comes before those behind it
abbrev pub AreInOrder : List LabelUse → Type 0
AreInOrder order =
    (j k : ℕ) (a b : LabelUse) → j < k → slice_get order j ≡ Some a → slice_get order k ≡ Some b
    → ComesFirst a b

-- the indices are below this one
abbrev pub AreWithin : List LabelUse → ℕ → Type 0
AreWithin order count =
    (k : ℕ) (one : LabelUse) → slice_get order k ≡ Some one → one.index < count

-- for each entry's index a place in the order is known where it stands
abbrev pub ArePlaces : List LabelUse → List ℕ → Type 0
ArePlaces order places =
    (k : ℕ) (one : LabelUse) → slice_get order k ≡ Some one
    → (place : ℕ) × (other : LabelUse) × (slice_get places one.index ≡ Some place)
    × (slice_get order place ≡ Some other) × (other.index ≡ one.index)

-- the number of a listed label becomes that of its place, and another code stays as it is
abbrev pub IsRenumbered : (own : ℕ) → (places : List ℕ) → Code → Code → Type 0
IsRenumbered own places code code' =
    ((index place : ℕ) × IsListed own index code × (slice_get places index ≡ Some place)
    × IsListed own place code')
    ⊎ (((index : ℕ) → index < length places → ¬ (IsListed own index code)) × (code' ≡ code))

-- an entry for each of so many labels, in order
pub record IsOrderByUse (own count : ℕ) (codes : List Code) (order : List LabelUse) : Type 0 where
  pub uses : List LabelUse
  pub many : length uses ≡ count
  pub counted : AreLabelUses own codes uses
  pub permuted : IsPermutation uses order
  pub ordered : AreInOrder order

-- the labels are listed by their use, and the codes say what they said, behind so many hypotheses
pub record AreListedByUse (own : ℕ) (labels : List LabelId) (codes : List Code)
    (labels' : List LabelId) (codes' : List Code) : Type 0 where
  pub order : List LabelUse
  pub by_use : IsOrderByUse own (length labels) codes order
  pub listed : AllZip (λ one id. slice_get labels one.index ≡ Some id) order labels'
  pub places : List ℕ
  pub long : length places ≡ length order
  pub placed : ArePlaces order places
  pub said : AllZip (IsRenumbered own places) codes codes'
