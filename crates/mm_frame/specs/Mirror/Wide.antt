-- The `$d` of many variables, as they are kept. This file mirrors the code, and is cited by private
-- contracts alone.
use Rattle.std.specs.Prelude.{◌≡◌, ℕ, ◌+◌, ◌<◌, ◌≤◌, ◌⊎◌, List, length, map, take, slice_get, Some}
use Rattle.std.specs.Prelude.{Contains}
use Rattle.std.specs.List.Sorted.{IsNonDecreasing, IsPermutation}
use Rattle.mm_base.specs.declared.statement.Kind.TheVariants.{Distinct}
use Rattle.mm_frame.specs.declared.number.Sym.{Sym}
use Rattle.mm_frame.specs.declared.wide.WideDistinct.{WideDistinct}
use Rattle.mm_frame.specs.Sentence.{Sentence}
use Rattle.mm_frame.specs.Active.{IsActive}

-- the numbers of a `$d`'s symbols are kept, in order
pub record IsWide (statements : List Sentence) (symbols : List (List ℕ))
    (w : WideDistinct) : Type 0 where
  pub d : Sentence
  pub there : slice_get statements w.index ≡ Some d
  pub kind : d.kind ≡ Distinct
  pub only : (n : ℕ) → Contains w.members.items n
      → (x : List ℕ) × (slice_get symbols n ≡ Some x) × Contains d.symbols x
  pub each : (n : ℕ) (x : List ℕ) → slice_get symbols n ≡ Some x → Contains d.symbols x
      → Contains w.members.items n
  pub sorted : IsNonDecreasing w.members.items

-- there are none up to an index in the list, or the last of them is active
abbrev pub EndWithActive : List Sentence → List WideDistinct → ℕ → Type 0
EndWithActive statements wide n =
    (n ≡ 0) ⊎ ((k : ℕ) × (w : WideDistinct) × (n ≡ k + 1) × (slice_get wide k ≡ Some w)
    × IsActive statements w.index)

-- `$d` of many variables, in their order: those between one and the latest before it that is active
-- where it stands aren't active there
pub record AreWide (statements : List Sentence) (symbols : List (List ℕ))
    (wide : List WideDistinct) : Type 0 where
  pub each : (i : ℕ) (w : WideDistinct) → slice_get wide i ≡ Some w → IsWide statements symbols w
  pub older : (i : ℕ) (w : WideDistinct) → slice_get wide i ≡ Some w → w.older ≤ i
  pub latest : (i : ℕ) (w : WideDistinct) → slice_get wide i ≡ Some w
      → EndWithActive (take w.index statements) wide w.older
  pub passed : (i k : ℕ) (w v : WideDistinct) → slice_get wide i ≡ Some w
      → slice_get wide k ≡ Some v → w.older ≤ k → k < i
      → (v.index < w.index) × ¬ (IsActive (take w.index statements) v.index)

-- the `$d` stands before an index, is active there and holds two symbols
abbrev pub HoldsPair : List Sentence → ℕ → ℕ → ℕ → WideDistinct → Type 0
HoldsPair statements before a b w =
    (w.index < before) × Contains w.members.items a × Contains w.members.items b
    × IsActive (take before statements) w.index

-- some `$d` of many variables does
abbrev pub IsHeld : List Sentence → List WideDistinct → ℕ → ℕ → ℕ → Type 0
IsHeld statements wide before a b =
    (i : ℕ) × (w : WideDistinct) × (slice_get wide i ≡ Some w) × HoldsPair statements before a b w

-- none from an index in the list on is so
abbrev pub NoneFrom : (WideDistinct → Type 0) → List WideDistinct → ℕ → Type 0
NoneFrom P wide n = (k : ℕ) (w : WideDistinct) → n ≤ k → slice_get wide k ≡ Some w → ¬ (P w)

-- what is kept of a new `$d` with these members, and the latest one before it that is active
pub record IsNewWide (statements : List Sentence) (wide : List WideDistinct) (members : List Sym)
    (w : WideDistinct) : Type 0 where
  pub index : w.index ≡ length statements
  pub among : IsPermutation (map (λ n. n.0) members) w.members.items
  pub sorted : IsNonDecreasing w.members.items
  pub older : w.older ≤ length wide
  pub latest : EndWithActive statements wide w.older
  pub passed : NoneFrom (λ v. IsActive statements v.index) wide w.older
